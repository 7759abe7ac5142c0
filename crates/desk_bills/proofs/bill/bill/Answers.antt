use Rattle.std.proofs.Common.{◌∙◌, ap, sym}
use Rattle.desk_history.specs.FromTables.{release_found}
use Rattle.desk_bills.proofs.Bills.{bill_told}
use Rattle.desk_bills.proofs.bill.bill.Goals as goal

pub returns-in_ok-bill_of-in-Frozen-clause-answer :
    goal.returns-in_ok-bill_of-in-Frozen-clause-answer
returns-in_ok-bill_of-in-Frozen-clause-answer g c = λ w right h t held.
    bill_told w t c.args.name.now c.in-Some.row c.in_ok-bill_of-in-Frozen.field-0
    (sym c.in-Some.is ∙ c.in_ok-row.ensures.found
    (c.in_ok-bill_of-in-Frozen.ensures.kept.kept.spared.honest h) t held
    ∙ ap (release_found t) c.as_str.ensures)
    c.in-Frozen.is
    (c.in_ok-bill_of-in-Frozen.ensures.found w right h t
    (c.in_ok-row.ensures.kept.kept.spared.holds t held))
