use Rattle.std.proofs.Common.{◌≡◌, drop}
use Rattle.std.specs.Prelude.{map}
use Rattle.std.specs.List.{list_any}
use Rattle.desk_tagvalue.specs.Documents.{document_text}
use Rattle.desk_tagvalue.specs.Views.{edge_text}
use Rattle.desk_bom.specs.Shipping.{describes, is_described}
use Rattle.desk_bom.proofs.shipping.is_described.Given as goal

-- no relationship so far says so
abbrev pub invariant-loop-edge : goal.invariant-loop-edge
invariant-loop-edge l = record {
  same : l.edges ≡ l.document.edges;
  rest : is_described (document_text l.document)
      ≡ list_any (describes (document_text l.document)) (map edge_text (drop l.edge-index l.edges));
}
