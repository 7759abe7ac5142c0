use Rattle.std.proofs.Common.{◌∙◌, ap, sym, subst, Some}
use Rattle.std.specs.BTreeMap.{get, Updates}
use Rattle.std.specs.Option.{option_copied}
use Rattle.desk_bills.specs.Lacking.{namesake_cmp}
use Rattle.desk_bills.proofs.Alike.{found_first, knows_again, knows_more}
use Rattle.desk_bills.proofs.namesakes.first_document.Goals as goal

pub returns-in-Some-clause-first : goal.returns-in-Some-clause-first
returns-in-Some-clause-first c ps knows =
    found_first ps c.args.firsts.now knows c.args.row.now c.in-Some.first.now
    (ap (get namesake_cmp c.args.firsts.now) (sym c.in_ok-namesake.ensures)
    ∙ sym c.get.ensures.value ∙ ap option_copied c.in-Some.is)

pub returns-in-Some-clause-knows : goal.returns-in-Some-clause-knows
returns-in-Some-clause-knows c ps knows =
    knows_again ps c.args.firsts.now knows c.args.row.now c.in-Some.first.now
    (ap (get namesake_cmp c.args.firsts.now) (sym c.in_ok-namesake.ensures)
    ∙ sym c.get.ensures.value ∙ ap option_copied c.in-Some.is)

pub returns-clause-knows : goal.returns-clause-knows
returns-clause-knows c ps knows =
    knows_more ps c.args.firsts.now knows c.args.row.now
    (ap (get namesake_cmp c.args.firsts.now) (sym c.in_ok-namesake.ensures)
    ∙ sym c.get.ensures.value ∙ ap option_copied c.in_default.is)
    c.insert.new.self
    (subst (λ n. Updates namesake_cmp c.args.firsts.now c.insert.new.self n
    (Some c.args.row.now.document)) c.in_ok-namesake.ensures c.in_ok-insert.ensures.updates)
