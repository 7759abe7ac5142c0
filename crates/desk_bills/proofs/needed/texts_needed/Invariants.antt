use Rattle.std.proofs.Common.{take}
use Rattle.std.specs.List.{flat_map}
use Rattle.desk_model.specs.Readings.{Readings}
use Rattle.desk_bills.specs.Billing.{AreNamed}
use Rattle.desk_bills.specs.Lacking.{named_by}
use Rattle.desk_bills.proofs.needed.texts_needed.Given as goal

abbrev pub invariant-loop-one : goal.invariant-loop-one
invariant-loop-one g l =
    (w : Readings) → g.T.Texts.are_right w
    → AreNamed w (flat_map (named_by w) (take l.one-index l.needed)) l.named
