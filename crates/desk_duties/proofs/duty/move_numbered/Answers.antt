use Rattle.std.proofs.Common.{◌≡◌, ◌∙◌, sym, subst}
use Rattle.std.specs.Prelude.{IfSome, Option, unwrap_or}
use Rattle.desk_model.specs.declared.row.DutyRow.{DutyRow}
use Rattle.desk_model.specs.declared.state.ReleaseState.TheVariants.{IsOpen}
use Rattle.desk_history.specs.FromTables.{moved_change, state_found, steps_found}
use Rattle.desk_duties.specs.Moving.{move_here, move_known}
use Rattle.desk_duties.proofs.Duties.{here_known, same_change}
use Rattle.desk_access.proofs.Chains.{plan_after, plans_after}
use Rattle.desk_duties.proofs.duty.move_numbered.Goals as goal

pub returns-clause-plan : goal.returns-clause-plan
returns-clause-plan g c =
    let row : DutyRow = c.in-Some.row in
    let q = c.args.duty in
    let m = c.args.made in
    let number : row.number ≡ q =
    subst (λ (o : Option DutyRow). IfSome o (λ row. row.number ≡ q)) c.in-Some.is
    c.in_ok-row.ensures.same in
    plan_after (g.S.Store.seen c.args.store.now) (g.S.Store.seen c.duty.new.self)
    (g.S.Store.seen c.move_found.new.store)
    (λ t. move_here m.word (unwrap_or (state_found t row.release) IsOpen) (steps_found t row.number)
    row.state) (λ t. move_known t m.word q)
    (λ t. moved_change t row.number m) (λ t. moved_change t q m)
    c.move_found.result c.in_ok-row.ensures.kept c.move_found.ensures.kept
    (λ h t held. (
      here_known t m.word q row.number row (sym (c.in_ok-row.ensures.found h t held) ∙ c.in-Some.is)
          number,
      same_change t row.number q m number,
    ))
    c.move_found.ensures.plan

pub returns-clause-kept : goal.returns-clause-kept
returns-clause-kept g c = plans_after _ _ _ c.move_found.result c.in_ok-row.ensures.kept
    c.move_found.ensures.kept
