use Rattle.std.proofs.Common.{◌≡◌, ◌++◌, take}
use Rattle.std.specs.List.{flat_map}
use Rattle.std.specs.String.{string_bytes}
use Rattle.desk_import.specs.Placed.{placed_line}
use Rattle.desk_import.proofs.placed.put_lines.Given as goal

-- the lines of the findings so far were added
abbrev pub invariant-loop-finding : goal.invariant-loop-finding
invariant-loop-finding l = string_bytes l.out
    ≡ string_bytes l.fn.out ++ flat_map placed_line (take l.finding-index l.findings)
