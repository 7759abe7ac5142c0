use Rattle.std.proofs.Common.{◌≡◌, ◌∙◌, ap, map, subst, sym, take_all}
use Rattle.std.specs.Prelude.{IfOk}
use Rattle.desk_model.specs.Queries.{queried}
use Rattle.desk_model.specs.Tables.{tables}
use Rattle.desk_model.specs.declared.command.DutyLine.{DutyLine}
use Rattle.desk_model.specs.declared.command.Outcome.{Outcome}
use Rattle.desk_model.specs.declared.command.Answer.TheVariants as answered
use Rattle.desk_model.specs.declared.command.Query.TheVariants as query
use Rattle.desk_access.proofs.Chains.{same_then_kept, same_then_same}
use Rattle.desk_core.specs.Desks.{InHistory}
use Rattle.desk_views.specs.Paging.{IsOtherChange}
use Rattle.desk_views.proofs.PageLemmas.{asked_kept, asked_other, asked_same, changes_more}
use Rattle.desk_views.proofs.PageLemmas.{changes_other, found_after, looked_up_err}
use Rattle.desk_views.proofs.RefusalLemmas.{changes_refused}
use Rattle.desk_views.proofs.paging.all_changes.Goals as goal

pub loop-duty-preserved : goal.loop-duty-preserved
loop-duty-preserved g c =
    let old = g.D.Desk.seen c.args.desk.now in
    let asked = g.D.Desk.seen c.loop-duty.desk in
    let new = g.D.Desk.seen c.changes_of.new.desk in
    let number = c.duty-item.result.number in
    let same = asked_same asked new _ c.changes_of.result c.changes_of.ensures.kept
    c.in_ok-rows.ensures in
    let told =
    subst (λ r. IfOk r (λ answer. InHistory g.D.Desk.are_right
    (λ w h. answer ≡ queried w h (query.Changes number)) asked new)) c.in_ok-rows.ensures
    c.changes_of.ensures.told in
    record {
      same = same_then_same old asked new c.loop-duty.invariant.same same;
      found = λ w right honest h ok held.
          changes_more w h c.args.duties.now c.loop-duty.duty-index c.duty-item.result
          c.loop-duty.changes.items c.add_rows.new.changes.items c.in_ok-rows.rows
          c.loop-duty-test.true c.duty-item.is
          (c.loop-duty.invariant.found w right (same.kept.spared.honest honest) h ok held)
          (sym (told w right honest h ok
          (c.loop-duty.invariant.same.kept.spared.holds (tables w h) held)))
          c.in_ok-add_rows.ensures.ok;
    }

pub returns-in_err-rows-clause-kept : goal.returns-in_err-rows-clause-kept
returns-in_err-rows-clause-kept g c =
    let old = g.D.Desk.seen c.args.desk.now in
    let new = g.D.Desk.seen c.changes_of.new.desk in
    looked_up_err old new c.from_residual.result c.from_residual.ensures.0
    (same_then_kept old (g.D.Desk.seen c.loop-duty.desk) new c.loop-duty.invariant.same
    (asked_kept (g.D.Desk.seen c.loop-duty.desk) new c.changes_of.result c.changes_of.ensures.kept))

pub returns-in_err-add_rows-clause-kept : goal.returns-in_err-add_rows-clause-kept
returns-in_err-add_rows-clause-kept g c =
    let old = g.D.Desk.seen c.args.desk.now in
    let new = g.D.Desk.seen c.changes_of.new.desk in
    looked_up_err old new c.from_residual-in_err-add_rows.result
    c.from_residual-in_err-add_rows.ensures.0
    (same_then_kept old (g.D.Desk.seen c.loop-duty.desk) new c.loop-duty.invariant.same
    (asked_kept (g.D.Desk.seen c.loop-duty.desk) new c.changes_of.result c.changes_of.ensures.kept))

pub returns-in_err-rows-clause-found : goal.returns-in_err-rows-clause-found
returns-in_err-rows-clause-found g c =
    let old = g.D.Desk.seen c.args.desk.now in
    let asked = g.D.Desk.seen c.loop-duty.desk in
    let new = g.D.Desk.seen c.changes_of.new.desk in
    let number = c.duty-item.result.number in
    let outcome = c.in_err-rows.field-0.0 in
    changes_other g.D.Desk.are_right old new c.args.duties.now c.from_residual.result outcome
    c.from_residual.ensures.1
    (found_after g.D.Desk.are_right old asked (λ w h. IsOtherChange w h outcome) new
    c.loop-duty.invariant.same
    (asked_other g.D.Desk.are_right asked new answered.Changes (query.Changes number)
    (λ w h. IsOtherChange w h) c.changes_of.result outcome c.changes_of.ensures.told
    c.in_err-rows.ensures
    (λ w h other is none.
    let it = changes_refused w h number other is none in
    (number, it.0, it.1, it.2))
    (λ w h fault. tt)))

pub returns-in_err-add_rows-clause-found : goal.returns-in_err-add_rows-clause-found
returns-in_err-add_rows-clause-found g c =
    let old = g.D.Desk.seen c.args.desk.now in
    let new = g.D.Desk.seen c.changes_of.new.desk in
    let outcome = c.in_err-add_rows.field-0.0 in
    changes_other g.D.Desk.are_right old new c.args.duties.now
    c.from_residual-in_err-add_rows.result outcome
    c.from_residual-in_err-add_rows.ensures.1
    (λ w right honest h ok held. subst (λ (o : Outcome). IsOtherChange w h o)
    (sym c.in_err-add_rows.ensures.memory) tt)

pub returns-clause-found : goal.returns-clause-found
returns-clause-found g c = λ w right honest h ok held.
    sym (ap (map (λ (line : DutyLine). queried w h (query.Changes line.number)))
    (take_all c.loop-duty.duty-index c.args.duties.now c.loop-duty-test.false))
    ∙ c.loop-duty.invariant.found w right honest h ok held
