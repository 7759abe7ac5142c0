use Rattle.std.proofs.Common.{◌∙◌}
use Rattle.desk_history.specs.FromTables.{shipped_found}
use Rattle.desk_bills.proofs.Bills.{bill_found}
use Rattle.desk_bills.proofs.bill.bill_of.Goals as goal

pub returns-clause-found : goal.returns-clause-found
returns-clause-found g c = λ w right h t held.
    let name = c.args.row.name in
    let frozen = c.in_ok-frozen.frozen.rows.items in
    let before = c.in_ok-bodies.ensures.kept.kept.spared.honest h in
    let first = c.in_ok-packages.ensures.kept.kept.spared.holds t held in
    bill_found w t c.args.row frozen c.in_ok-packages.packages.items (shipped_found t name)
    c.in_ok-uses.uses.items c.in_ok-parts.parts.lines c.in_ok-bodies.bodies
    (c.in_ok-frozen.ensures.found before t first)
    (c.in_ok-packages.ensures.found (c.in_ok-frozen.ensures.kept.kept.spared.honest before) t held)
    c.in_ok-parts.ensures.lines
    (c.in_ok-uses.ensures ∙ c.in_ok-parts.ensures.named w right)
    (c.in_ok-bodies.ensures.found w right h t
    (c.in_ok-frozen.ensures.kept.kept.spared.holds t first))
