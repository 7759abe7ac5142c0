use Rattle.std.proofs.Common.{◌≡◌, ◌++◌, drop}
use Rattle.std.specs.Prelude.{map}
use Rattle.std.specs.List.{filter_map}
use Rattle.desk_tagvalue.specs.Documents.{document_text}
use Rattle.desk_tagvalue.specs.Views.{edge_text}
use Rattle.desk_bom.specs.Shipping.{shipping_arrow, shipping_arrows}
use Rattle.desk_bom.proofs.shipping.shipping_arrows.Given as goal

-- those found and those in what is left are all
abbrev pub invariant-loop-edge : goal.invariant-loop-edge
invariant-loop-edge l = record {
  same : l.edges ≡ l.document.edges;
  rest : l.arrows.items ++ filter_map (shipping_arrow (document_text l.document))
      (map edge_text (drop l.edge-index l.edges)) ≡ shipping_arrows (document_text l.document);
}
