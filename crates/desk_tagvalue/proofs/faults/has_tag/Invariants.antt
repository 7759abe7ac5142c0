use Rattle.std.proofs.Common.{◌≡◌, drop}
use Rattle.std.specs.Prelude.{map}
use Rattle.std.specs.List.{list_any}
use Rattle.desk_tagvalue.specs.Entries.{entry_text}
use Rattle.desk_tagvalue.specs.Faults.{has_tag}
use Rattle.desk_tagvalue.proofs.faults.has_tag.Given as goal

-- the fields passed over have another tag
abbrev pub invariant-loop-entry : goal.invariant-loop-entry
invariant-loop-entry l = list_any (has_tag l.tag) (map entry_text l.entries)
    ≡ list_any (has_tag l.tag) (map entry_text (drop l.entry-index l.entries))
