use Rattle.std.proofs.Common.{inl, inr, refl}
use Rattle.desk_model.specs.declared.command.Answer.TheVariants as answered
use Rattle.desk_model.specs.declared.command.Query.TheVariants as query
use Rattle.desk_access.proofs.Chains.{same_then_kept, same_then_same}
use Rattle.desk_views.specs.Paging.{IsOther}
use Rattle.desk_views.proofs.PageLemmas.{asked_kept, asked_other, asked_same, found_after}
use Rattle.desk_views.proofs.PageLemmas.{gathers_change, gathers_other}
use Rattle.desk_views.proofs.RefusalLemmas.{bill_refused, duties_refused, totals_refused}
use Rattle.desk_views.proofs.paging.contents_of.Goals as goal

pub returns-in_err-bill-clause-found : goal.returns-in_err-bill-clause-found
returns-in_err-bill-clause-found g c =
    let r = c.args.release.now in
    let old = g.D.Desk.seen c.args.desk.now in
    let new = g.D.Desk.seen c.bill_of.new.desk in
    gathers_other g.D.Desk.are_right old new r c.from_residual.result c.in_err-bill.field-0.0
    c.from_residual.ensures.1
    (asked_other g.D.Desk.are_right old new answered.Bill (query.Bill r) (λ w h. IsOther w h r)
    c.bill_of.result c.in_err-bill.field-0.0 c.bill_of.ensures.told c.in_err-bill.ensures
    (λ w h other is none.
    let it = bill_refused w h r other is none in
    (query.Bill r, it.0, inl refl, it.1, it.2))
    (λ w h fault. tt))

pub returns-in-Err-clause-found : goal.returns-in-Err-clause-found
returns-in-Err-clause-found g c =
    let r = c.args.release.now in
    let old = g.D.Desk.seen c.args.desk.now in
    let asked = g.D.Desk.seen c.bill_of.new.desk in
    let new = g.D.Desk.seen c.totals_of.new.desk in
    found_after g.D.Desk.are_right old asked (λ w h. IsOther w h r c.in-Err.outcome) new
    (asked_same old asked _ c.bill_of.result c.bill_of.ensures.kept c.in_ok-bill.ensures)
    (asked_other g.D.Desk.are_right asked new answered.Totals (query.Totals r)
    (λ w h. IsOther w h r) c.totals_of.result c.in-Err.outcome c.totals_of.ensures.told
    c.in-Err.ensures
    (λ w h other is none.
    let it = totals_refused w h r other is none in
    (query.Totals r, it.0, inr (inl refl), it.1, it.2))
    (λ w h fault. tt))

pub returns-in-Err-duties_in-clause-found : goal.returns-in-Err-duties_in-clause-found
returns-in-Err-duties_in-clause-found g c =
    let r = c.args.release.now in
    let old = g.D.Desk.seen c.args.desk.now in
    let asked = g.D.Desk.seen c.bill_of.new.desk in
    let asked' = g.D.Desk.seen c.totals_of.new.desk in
    let new = g.D.Desk.seen c.duties_of.new.desk in
    found_after g.D.Desk.are_right old asked' (λ w h. IsOther w h r c.in-Err-duties_in.outcome) new
    (same_then_same old asked asked'
    (asked_same old asked _ c.bill_of.result c.bill_of.ensures.kept c.in_ok-bill.ensures)
    (asked_same asked asked' _ c.totals_of.result c.totals_of.ensures.kept c.in-Ok.ensures))
    (asked_other g.D.Desk.are_right asked' new answered.Duties (query.Duties r)
    (λ w h. IsOther w h r) c.duties_of.result c.in-Err-duties_in.outcome c.duties_of.ensures.told
    c.in-Err-duties_in.ensures
    (λ w h other is none.
    let it = duties_refused w h r other is none in
    (query.Duties r, it.0, inr (inr (inl refl)), it.1, it.2))
    (λ w h fault. tt))

pub returns-in-Err-all_changes-clause-found : goal.returns-in-Err-all_changes-clause-found
returns-in-Err-all_changes-clause-found g c =
    let r = c.args.release.now in
    let old = g.D.Desk.seen c.args.desk.now in
    let asked = g.D.Desk.seen c.bill_of.new.desk in
    let asked' = g.D.Desk.seen c.totals_of.new.desk in
    let asked'' = g.D.Desk.seen c.duties_of.new.desk in
    let new = g.D.Desk.seen c.all_changes.new.desk in
    found_after g.D.Desk.are_right old asked'' (λ w h. IsOther w h r c.in-Err-all_changes.outcome)
    new
    (same_then_same old asked' asked''
    (same_then_same old asked asked'
    (asked_same old asked _ c.bill_of.result c.bill_of.ensures.kept c.in_ok-bill.ensures)
    (asked_same asked asked' _ c.totals_of.result c.totals_of.ensures.kept c.in-Ok.ensures))
    (asked_same asked' asked'' _ c.duties_of.result c.duties_of.ensures.kept
    c.in-Ok-duties_in.ensures))
    (gathers_change g.D.Desk.are_right asked'' new r c.in-Err-all_changes.outcome
    c.in-Err-all_changes.ensures.found)

pub returns-in_err-bill-clause-kept : goal.returns-in_err-bill-clause-kept
returns-in_err-bill-clause-kept g c = asked_kept _ _ c.bill_of.result c.bill_of.ensures.kept

pub returns-in-Err-clause-kept : goal.returns-in-Err-clause-kept
returns-in-Err-clause-kept g c =
    same_then_kept _ _ _ (asked_same _ _ _ c.bill_of.result c.bill_of.ensures.kept
    c.in_ok-bill.ensures)
    (asked_kept _ _ c.totals_of.result c.totals_of.ensures.kept)

pub returns-in-Err-duties_in-clause-kept : goal.returns-in-Err-duties_in-clause-kept
returns-in-Err-duties_in-clause-kept g c =
    same_then_kept _ _ _ (asked_same _ _ _ c.bill_of.result c.bill_of.ensures.kept
    c.in_ok-bill.ensures)
    (same_then_kept _ _ _ (asked_same _ _ _ c.totals_of.result c.totals_of.ensures.kept
    c.in-Ok.ensures)
    (asked_kept _ _ c.duties_of.result c.duties_of.ensures.kept))

pub returns-in-Err-all_changes-clause-kept : goal.returns-in-Err-all_changes-clause-kept
returns-in-Err-all_changes-clause-kept g c =
    same_then_kept _ _ _ (asked_same _ _ _ c.bill_of.result c.bill_of.ensures.kept
    c.in_ok-bill.ensures)
    (same_then_kept _ _ _ (asked_same _ _ _ c.totals_of.result c.totals_of.ensures.kept
    c.in-Ok.ensures)
    (same_then_kept _ _ _ (asked_same _ _ _ c.duties_of.result c.duties_of.ensures.kept
    c.in-Ok-duties_in.ensures) c.in-Err-all_changes.ensures.kept))

pub returns-clause-kept : goal.returns-clause-kept
returns-clause-kept g c =
    same_then_kept _ _ _ (asked_same _ _ _ c.bill_of.result c.bill_of.ensures.kept
    c.in_ok-bill.ensures)
    (same_then_kept _ _ _ (asked_same _ _ _ c.totals_of.result c.totals_of.ensures.kept
    c.in-Ok.ensures)
    (same_then_kept _ _ _ (asked_same _ _ _ c.duties_of.result c.duties_of.ensures.kept
    c.in-Ok-duties_in.ensures) c.in-Ok-all_changes.ensures.kept.kept))
