use Rattle.std.proofs.Common.{◌≡◌, ◌++◌, drop}
use Rattle.std.specs.List.{flat_map}
use Rattle.desk_model.specs.Gaps.{shipment_gaps}
use Rattle.desk_bills.proofs.lacks.add_shipments.Given as goal

abbrev pub invariant-loop-document : goal.invariant-loop-document
invariant-loop-document l =
    l.gaps.items ++ flat_map (shipment_gaps l.rows) (drop l.document-index l.attached)
    ≡ l.fn.gaps.items ++ flat_map (shipment_gaps l.rows) l.attached
