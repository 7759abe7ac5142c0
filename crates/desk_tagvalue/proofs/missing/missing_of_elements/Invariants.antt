use Rattle.std.proofs.Common.{◌≡◌, drop}
use Rattle.std.specs.Prelude.{map}
use Rattle.desk_tagvalue.specs.Entries.{entry_text}
use Rattle.desk_tagvalue.specs.Missing.{missing_of_elements}
use Rattle.desk_tagvalue.proofs.missing.missing_of_elements.Given as goal

-- each element passed over has its identifier
abbrev pub invariant-loop-i : goal.invariant-loop-i
invariant-loop-i l = missing_of_elements (map entry_text l.entries)
    ≡ missing_of_elements (map entry_text (drop l.i l.entries))
