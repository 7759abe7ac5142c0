use Rattle.std.proofs.Common.{◌≡◌, ◌++◌, drop}
use Rattle.std.specs.Prelude.{map}
use Rattle.std.specs.List.{filter_map}
use Rattle.desk_base.specs.Borrowed.{texts}
use Rattle.desk_tagvalue.specs.Documents.{document_text}
use Rattle.desk_tagvalue.specs.Views.{edge_text}
use Rattle.desk_import.specs.Elsewhere.{elsewhere_ids, elsewhere_in}
use Rattle.desk_import.proofs.elsewhere.elsewhere_ids.Given as goal

-- those found and those in what is left are all
abbrev pub invariant-loop-edge : goal.invariant-loop-edge
invariant-loop-edge l = record {
  same : l.edges ≡ l.document.edges;
  rest : texts l.ids.items ++ filter_map (elsewhere_in (document_text l.document) l.marks)
      (map edge_text (drop l.edge-index l.edges))
      ≡ elsewhere_ids (document_text l.document) l.marks;
}
