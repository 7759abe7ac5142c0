use Rattle.std.proofs.Common.{◌≡◌, ◌≤◌, ◌++◌, ℕ, List, drop}
use Rattle.std.specs.Prelude.{map, Option, IfSome}
use Rattle.std.specs.List.{flat_map}
use Rattle.desk_expr.specs.Tree.{Tree}
use Rattle.desk_tagvalue.specs.Documents.{document_text}
use Rattle.desk_tagvalue.specs.Entries.{entry_text}
use Rattle.desk_tagvalue.specs.declared.sections.SectionKind.TheVariants as sections
use Rattle.desk_findings.specs.Fields.{IsReading, fields_in}
use Rattle.desk_findings.specs.Findings.{field_findings}
use Rattle.desk_findings.specs.Known.{state_in}
use Rattle.desk_findings.specs.Told.{IsTold}
use Rattle.desk_findings.proofs.document.add_of_fields.Given as goal

-- those found and those in what is left are all
abbrev pub invariant-loop-entry : goal.invariant-loop-entry
invariant-loop-entry l = record {
  packages : l.packages ≤ l.entry-index;
  same : l.entries ≡ l.document.entries;
  told : IfSome l.last (IsTold l.known.profile l.known.defined);
  rest : (reads : List ℕ → Option Tree) → IsReading l.known.profile reads
      → l.found.items ++ flat_map (field_findings reads (state_in l.known.states.items)
      (document_text l.document)) (fields_in l.section l.packages
      (map entry_text (drop l.entry-index l.entries)))
      ≡ l.fn.found.items ++ flat_map
      (field_findings reads (state_in l.known.states.items) (document_text l.document))
      (fields_in sections.Document 0 (map entry_text l.entries));
}
