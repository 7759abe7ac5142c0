use Rattle.std.proofs.Common.{ap, sym, subst}
use Rattle.desk_access.specs.Plans.{IsPlan}
use Rattle.desk_access.proofs.Chains.{plan_after, plans_after}
use Rattle.desk_history.specs.FromTables.{chosen_change, conclusion_found}
use Rattle.desk_model.specs.Texts.{sorted_set}
use Rattle.desk_preparing.specs.Choosing.{IsFound, choose_for, choose_found}
use Rattle.desk_preparing.proofs.choice.choose_terms.Goals as goal

pub returns-in-Nowhere-clause-plan : goal.returns-in-Nowhere-clause-plan
returns-in-Nowhere-clause-plan g c = λ w right h t held.
    subst (IsPlan (choose_found w t c.args.release.now c.args.document c.args.package_id.now
    c.args.terms.now)
    (chosen_change c.args.release.now c.args.document c.args.package_id.now
    (sorted_set c.args.terms.now))) (sym c.refuse.ensures)
    (subst (IsFound t c.args.release.now c.args.document c.args.package_id.now) c.in-Nowhere.is
    (c.in_ok-refusal.ensures.found h t held) w c.args.terms.now)

pub returns-in-Here-clause-plan : goal.returns-in-Here-clause-plan
returns-in-Here-clause-plan g c = λ w right.
    let r = c.args.release.now in
    let d = c.args.document in
    let p = c.args.package_id.now in
    let terms = c.args.terms.now in
    let place = c.in-Here.place in
    plan_after (g.S.Store.seen c.args.store.now) (g.S.Store.seen c.find_place.new.store)
    (g.S.Store.seen c.choose_here.new.store)
    (λ t. choose_for w terms (conclusion_found w t place.row) place.row)
    (λ t. choose_found w t r d p terms)
    (λ t. chosen_change r place.document p (sorted_set terms))
    (λ t. chosen_change r d p (sorted_set terms))
    c.choose_here.result c.in_ok-refusal.ensures.kept c.choose_here.ensures.kept
    (λ h t held.
    let there = subst (IsFound t r d p) c.in-Here.is (c.in_ok-refusal.ensures.found h t held) in
    (there.1 w terms, ap (λ n. chosen_change r n p (sorted_set terms)) there.0))
    (c.choose_here.ensures.plan w right)

pub returns-in-Here-clause-kept : goal.returns-in-Here-clause-kept
returns-in-Here-clause-kept g c = plans_after _ _ _ c.choose_here.result
    c.in_ok-refusal.ensures.kept c.choose_here.ensures.kept
