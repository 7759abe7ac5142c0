use Rattle.std.proofs.Common.{◌≡◌, ◌++◌, take}
use Rattle.std.specs.String.{string_bytes}
use Rattle.desk_cyclonedx.specs.Names.{escaped}
use Rattle.desk_cyclonedx.proofs.names.add_escaped.Given as goal

-- the bytes so far were added
abbrev pub invariant-loop-byte : goal.invariant-loop-byte
invariant-loop-byte l = string_bytes l.out
    ≡ string_bytes l.initial.out ++ escaped (take l.byte-index l.byte-items)
