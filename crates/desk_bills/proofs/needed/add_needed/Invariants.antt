use Rattle.std.proofs.Common.{take}
use Rattle.desk_model.specs.Readings.{Readings}
use Rattle.desk_model.specs.Gaps.{terms_named}
use Rattle.desk_bills.specs.Billing.{Adds}
use Rattle.desk_bills.proofs.needed.add_needed.Given as goal

abbrev pub invariant-loop-term : goal.invariant-loop-term
invariant-loop-term g l =
    (w : Readings) → g.T.Texts.are_right w
    → Adds w (terms_named w l.needed.document (take l.term-index l.needed.terms)) l.fn.named l.named
