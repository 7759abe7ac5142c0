use Rattle.std.proofs.Common.{◌≡◌, ◌++◌, drop}
use Rattle.std.specs.Prelude.{map}
use Rattle.desk_tagvalue.specs.Entries.{entry_text}
use Rattle.desk_tagvalue.specs.Parts.{edges_of}
use Rattle.desk_tagvalue.specs.Views.{edge_text}
use Rattle.desk_tagvalue.proofs.lists.edges.Given as goal

-- those found and those in what is left are all
abbrev pub invariant-loop-entry : goal.invariant-loop-entry
invariant-loop-entry l = map edge_text l.found.items
    ++ edges_of (map entry_text (drop l.entry-index l.entries))
    ≡ edges_of (map entry_text l.entries)
