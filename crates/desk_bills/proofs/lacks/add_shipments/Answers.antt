use Rattle.std.proofs.Common.{◌∙◌, ◌++◌, ap, refl}
use Rattle.std.specs.Prelude.{not}
use Rattle.std.specs.List.{flat_map}
use Rattle.desk_model.specs.Gaps.{gap, one_if, shipment_gaps}
use Rattle.desk_model.specs.declared.gap.GapKind.TheVariants.{Shipment}
use Rattle.desk_wanting.proofs.Lists.{ended, flat_map_step}
use Rattle.desk_bills.specs.Lacking.{has_document}
use Rattle.desk_bills.proofs.lacks.add_shipments.Goals as goal

pub loop-document-preserved : goal.loop-document-preserved
loop-document-preserved c =
    let rows = c.args.rows.now in
    let x = c.document-item.result in
    flat_map_step (shipment_gaps rows) c.args.attached.now c.loop-document.document-index x
    c.loop-document.gaps.items c.add_if.new.gaps.items (shipment_gaps rows x) _
    c.loop-document-test.true c.document-item.is refl
    (c.in_ok-add_if.ensures ∙ (ap (λ b. c.loop-document.gaps.items
    ++ one_if (not b) (gap Shipment x.document c.in_ok-whole.whole)) c.has_document-lacks.ensures
    ∙ ap (λ t. c.loop-document.gaps.items ++ one_if (not (has_document rows x.document)) (gap Shipment x.document t))
    c.in_ok-whole.ensures))
    c.loop-document.invariant

pub returns : goal.returns
returns c = ended (flat_map (shipment_gaps c.args.rows.now)) c.args.attached.now
    c.loop-document.document-index c.loop-document.gaps.items _ c.loop-document-test.false refl
    c.loop-document.invariant
