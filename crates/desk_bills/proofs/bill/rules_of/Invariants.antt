use Rattle.std.proofs.Common.{◌≡◌, map, take}
use Rattle.std.specs.Prelude.{filter}
use Rattle.desk_bills.specs.Billing.{is_of}
use Rattle.desk_bills.proofs.bill.rules_of.Given as goal

abbrev pub invariant-loop-row : goal.invariant-loop-row
invariant-loop-row l = l.rules
    ≡ map (λ row. row.rule) (filter (is_of l.key) (take l.row-index l.rows))
