use Rattle.std.proofs.Common.{take}
use Rattle.std.specs.Prelude.{filter}
use Rattle.std.specs.List.{flat_map}
use Rattle.desk_model.specs.Readings.{Readings}
use Rattle.desk_model.specs.Bills.{texts_named}
use Rattle.desk_bills.specs.Billing.{Adds, is_of}
use Rattle.desk_bills.proofs.texts.add_terms.Given as goal

abbrev pub invariant-loop-row : goal.invariant-loop-row
invariant-loop-row g l =
    (w : Readings) → g.T.Texts.are_right w
    → Adds w (flat_map (λ row. texts_named w row.document row.term)
    (filter (is_of l.key) (take l.row-index l.rows))) l.fn.named l.named
