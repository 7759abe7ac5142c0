use Rattle.std.proofs.Common.{◌∙◌, sym}
use Rattle.desk_tagvalue.specs.Documents.{document_text}
use Rattle.desk_tagvalue.specs.Views.{edge_text}
use Rattle.desk_bom.specs.Shipping.{describes}
use Rattle.desk_bom.proofs.LoopLemmas.{any_more, any_here}
use Rattle.desk_bom.proofs.shipping.is_described.Goals as goal

pub returns-then-describes : goal.returns-then-describes
returns-then-describes c =
    let d = document_text c.args.document.now in
    sym (c.loop-edge.invariant.rest
    ∙ any_here edge_text c.as_slice-edges.result.now c.loop-edge.edge-index _ c.loop-edge-test.true
    (describes d) (sym (c.describes.ensures d c.requires) ∙ c.if-describes.true))

pub loop-edge-preserved : goal.loop-edge-preserved
loop-edge-preserved c =
    let d = document_text c.args.document.now in
    record {
      same = c.loop-edge.invariant.same;
      rest = c.loop-edge.invariant.rest
          ∙ any_more edge_text c.as_slice-edges.result.now c.loop-edge.edge-index _
          c.loop-edge-test.true (describes d)
          (sym (c.describes.ensures d c.requires) ∙ c.if-describes.false);
    }
