use Rattle.std.proofs.Common.{◌≡◌, drop}
use Rattle.std.specs.Prelude.{map}
use Rattle.desk_tagvalue.specs.Entries.{entry_text, value_of}
use Rattle.desk_tagvalue.proofs.entries.value_of.Given as goal

-- the fields passed over have another tag
abbrev pub invariant-loop-entry : goal.invariant-loop-entry
invariant-loop-entry l = value_of l.tag (map entry_text l.entries)
    ≡ value_of l.tag (map entry_text (drop l.entry-index l.entries))
