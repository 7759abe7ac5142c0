use Rattle.std.proofs.Common.{◌≡◌, map}
use Rattle.std.specs.List.{flat_map}
use Rattle.desk_model.specs.Readings.{Readings}
use Rattle.desk_model.specs.Bills.{bill_line, package_texts}
use Rattle.desk_bills.specs.Billing.{AreNamed}
use Rattle.desk_bills.proofs.bill.parts_of.Given as goal

abbrev pub invariant-loop-row : goal.invariant-loop-row
invariant-loop-row g l =
    (l.lines ≡ map (bill_line l.frozen.rows.items l.release) l.yielded)
    × ((w : Readings) → g.T.Texts.are_right w
    → AreNamed w (flat_map (package_texts w l.frozen.rows.items l.release) l.yielded) l.named)
