use Rattle.std.proofs.Common.{sym, subst}
use Rattle.desk_history.specs.FromTables.{moved_change, moved_found, moving_found}
use Rattle.desk_access.specs.Plans.{IsPlan}
use Rattle.desk_duties.specs.Moving.{IsRead}
use Rattle.desk_duties.proofs.Duties.{moved_plan}
use Rattle.desk_duties.proofs.duty.move_duty.Goals as goal

pub returns-in-Move-clause-plan : goal.returns-in-Move-clause-plan
returns-in-Move-clause-plan g c =
    moved_plan (g.S.Store.seen c.args.store.now) (g.S.Store.seen c.move_numbered.new.store)
    c.args.word c.args.duty c.args.day.now c.args.text.now c.args.until.now c.in-Move.made
    c.move_numbered.result (subst (IsRead c.args.word c.args.day.now c.args.text.now
    c.args.until.now) c.in-Move.is c.in_ok-refusal.ensures) c.move_numbered.ensures.plan

pub returns-in-Refused-clause-plan : goal.returns-in-Refused-clause-plan
returns-in-Refused-clause-plan g c = λ h t held.
    let word = c.args.word in
    let day = c.args.day.now in
    let text = c.args.text.now in
    let until = c.args.until.now in
    subst (IsPlan (moved_found t word c.args.duty day text until)
    (moved_change t c.args.duty (record { day = day; word = word; body = text; last_day = until })))
    (sym c.refuse.ensures)
    (sym (subst (IsRead word day text until) c.in-Refused.is c.in_ok-refusal.ensures
    (moving_found t c.args.duty)))
