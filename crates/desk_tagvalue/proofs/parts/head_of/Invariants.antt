use Rattle.std.proofs.Common.{◌≡◌, ◌++◌, drop, take}
use Rattle.std.specs.Prelude.{map}
use Rattle.desk_tagvalue.specs.Entries.{entry_text}
use Rattle.desk_tagvalue.specs.Parts.{head_of}
use Rattle.desk_tagvalue.proofs.parts.head_of.Given as goal

-- the fields passed over begin no section
abbrev pub invariant-loop-i : goal.invariant-loop-i
invariant-loop-i l = head_of (map entry_text l.entries) ≡ map entry_text (take l.i l.entries)
    ++ head_of (map entry_text (drop l.i l.entries))
