use Rattle.std.proofs.Common.{◌≡◌, ◌++◌, drop}
use Rattle.std.specs.Prelude.{map}
use Rattle.std.specs.List.{filter_map}
use Rattle.desk_tagvalue.specs.Documents.{document_text}
use Rattle.desk_tagvalue.specs.Views.{edge_text}
use Rattle.desk_bom.specs.Contents.{tie}
use Rattle.desk_bom.proofs.contents.add_tied.Given as goal

-- those found and those in what is left are all
abbrev pub invariant-loop-edge : goal.invariant-loop-edge
invariant-loop-edge l = record {
  same : l.edges ≡ l.document.edges;
  rest : l.found.items ++ filter_map (tie (document_text l.document))
      (map edge_text (drop l.edge-index l.edges)) ≡ l.fn.found.items
      ++ filter_map (tie (document_text l.document)) (document_text l.document).edges;
}
