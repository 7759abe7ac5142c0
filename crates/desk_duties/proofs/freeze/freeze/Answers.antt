use Rattle.std.proofs.Common.{◌≡◌, ◌∙◌, sym, ap, Some}
use Rattle.desk_model.specs.declared.command.Command.TheVariants.{Freeze}
use Rattle.desk_history.specs.FromTables.{release_found, answer_from, change_for, freeze_change_found}
use Rattle.desk_duties.specs.Freezing.{freeze_open_found}
use Rattle.desk_access.proofs.Chains.{plans_after, plan_after}
use Rattle.desk_duties.proofs.Freezes.{frozen_answer, frozen_change}
use Rattle.desk_duties.proofs.freeze.freeze.Goals as goal

pub returns-clause-plan : goal.returns-clause-plan
returns-clause-plan g c = λ w right.
    let r = c.args.release.now in
    let day = c.args.day.now in
    let row = c.in-Some-2.row in
    plan_after (g.S.Store.seen c.args.store.now) (g.S.Store.seen c.release.new.self)
    (g.S.Store.seen c.freeze_open.new.store)
    (λ t. freeze_open_found w t r row.form) (λ t. answer_from w t (Freeze r day))
    (λ t. freeze_change_found w t r row.form c.in-Some.day) (λ t. change_for w t (Freeze r day))
    c.freeze_open.result c.in_ok-row.ensures.kept c.freeze_open.ensures.kept
    (λ h t held.
    let found : release_found t r ≡ Some row = ap (release_found t) (sym c.as_str.ensures)
    ∙ (sym (c.in_ok-row.ensures.found h t held) ∙ c.in-Some-2.is) in (
      frozen_answer w t r day row found c.in-Some.ensures.0 c.in_default-unready.ensures,
      frozen_change w t r day c.in-Some.day row found c.in-Some.ensures.1,
    ))
    (c.freeze_open.ensures.plan w right)

pub returns-clause-kept : goal.returns-clause-kept
returns-clause-kept g c = plans_after _ _ _ c.freeze_open.result c.in_ok-row.ensures.kept
    c.freeze_open.ensures.kept
