use Rattle.std.proofs.Common.{◌≡◌, ◌∙◌, true, false, List, ℕ, Option, sym, ap, rules}
use Rattle.std.specs.Option.{option_map}
use Rattle.desk_model.specs.Texts.{is_note}
use Rattle.desk_model.specs.Tables.{Tables}
use Rattle.desk_model.specs.declared.command.Command.TheVariants.{Withdraw}
use Rattle.desk_model.specs.Answers.{refused_alone}
use Rattle.desk_model.specs.declared.row.ReleaseRow.{ReleaseRow}
use Rattle.desk_history.specs.FromTables.{change_for, release_found, standings_found, state_found, withdrawing_found}
use Rattle.desk_access.proofs.Chains.{same_self, same_then_same}
use Rattle.desk_duties.proofs.Withdrawals.{left, made, bad_day, bad_text, unknown, is_gone}
use Rattle.desk_duties.proofs.Withdrawals.{withdrawn, same_rows, left_spares, made_spares}
use Rattle.desk_duties.proofs.Withdrawals.{left_plans, not_alone}
use Rattle.desk_duties.proofs.withdraw.withdraw.Goals as goal

state_is : (t : Tables) (r name : List ℕ) (o o' : Option ReleaseRow) → name ≡ r
    → o ≡ release_found t name → o ≡ o' → state_found t r ≡ option_map (λ row. row.state) o'
state_is t r name o o' e f g = ap (λ (n : List ℕ). state_found t n) (sym e)
    ∙ ap (λ (o : Option ReleaseRow). option_map (λ row. row.state) o) (sym f ∙ g)

pub returns-in_default-clause-plan : goal.returns-in_default-clause-plan
returns-in_default-clause-plan g c = λ w h t held.
    let r = c.args.release.now in
    let day = c.args.day.now in
    let text = c.args.text.now in
    left c.refuse.result _ _ (change_for w t (Withdraw r day text)) c.refuse.ensures
    (bad_day day text (withdrawing_found t r) c.in_default.ensures)

pub returns-then-not-is_note-clause-plan : goal.returns-then-not-is_note-clause-plan
returns-then-not-is_note-clause-plan g c = λ w h t held.
    let r = c.args.release.now in
    let day = c.args.day.now in
    let text = c.args.text.now in
    let note : is_note text ≡ false = ap is_note (sym c.as_str.ensures)
    ∙ sym c.if-not-is_note.ensures in
    left c.refuse-then-not-is_note.result _ _ (change_for w t (Withdraw r day text))
    c.refuse-then-not-is_note.ensures
    (bad_text day text (withdrawing_found t r) c.in-Some.ensures.0 note)

pub returns-in_default-2-clause-plan : goal.returns-in_default-2-clause-plan
returns-in_default-2-clause-plan g c = λ w h t held.
    let r = c.args.release.now in
    let day = c.args.day.now in
    let text = c.args.text.now in
    let note : is_note text ≡ true = ap is_note (sym c.as_str.ensures)
    ∙ sym c.if-not-is_note.ensures in
    left c.refuse-in_default-2.result _ _ (change_for w t (Withdraw r day text))
    c.refuse-in_default-2.ensures
    (unknown day text (withdrawing_found t r) c.in-Some.ensures.0 note
    (state_is t r _ _ _ c.as_str-2.ensures (c.in_ok-row.ensures.found h t held) c.in_default-2.is))

pub returns-in-Some-refusal_if_gone-clause-plan : goal.returns-in-Some-refusal_if_gone-clause-plan
returns-in-Some-refusal_if_gone-clause-plan g c = λ w h t held.
    let r = c.args.release.now in
    let day = c.args.day.now in
    let text = c.args.text.now in
    let note : is_note text ≡ true = ap is_note (sym c.as_str.ensures)
    ∙ sym c.if-not-is_note.ensures in
    left c.refuse-in-Some-refusal_if_gone.result _ _ (change_for w t (Withdraw r day text))
    c.refuse-in-Some-refusal_if_gone.ensures
    (is_gone day text (withdrawing_found t r) c.in-Some-2.row.state c.in-Some-refusal_if_gone.refusal
    c.in-Some.ensures.0 note
    (state_is t r _ _ _ c.as_str-2.ensures (c.in_ok-row.ensures.found h t held) c.in-Some-2.is)
    (sym c.in-Some-refusal_if_gone.is ∙ c.refusal_if_gone.ensures))

pub returns-clause-plan : goal.returns-clause-plan
returns-clause-plan g c = λ w h t held.
    let r = c.args.release.now in
    let day = c.args.day.now in
    let text = c.args.text.now in
    let note : is_note text ≡ true = ap is_note (sym c.as_str.ensures)
    ∙ sym c.if-not-is_note.ensures in
    let before = c.in_ok-standings.ensures.kept.kept.spared.honest h in
    let found = c.in_ok-standings.ensures.found h t
    (c.in_ok-row.ensures.kept.kept.spared.holds t held) in
    made c.make.result _ _ c.in_ok-withdrew.field-0 (change_for w t (Withdraw r day text))
    c.make.ensures
    (withdrawn day text (withdrawing_found t r) c.in-Some-2.row.state c.in-Some.ensures.0 note
    (state_is t r _ _ _ c.as_str-2.ensures (c.in_ok-row.ensures.found before t held) c.in-Some-2.is)
    (sym c.in_default-refusal_if_gone.is ∙ c.refusal_if_gone.ensures))
    (c.in_ok-withdrew.ensures ∙ same_rows r _ day text _ _ c.in-Some.ensures.1
    (found ∙ ap (standings_found t) c.as_str-3.ensures))

pub returns-clause-kept : goal.returns-clause-kept
returns-clause-kept g c = (
  same_then_same _ _ _ c.in_ok-row.ensures.kept c.in_ok-standings.ensures.kept,
  search rules,
)

pub returns-in_default-clause-kept : goal.returns-in_default-clause-kept
returns-in_default-clause-kept g c = left_plans _ _ c.refuse.result _ (same_self _)
    c.refuse.ensures

pub returns-in_default-clause-alone : goal.returns-in_default-clause-alone
returns-in_default-clause-alone g c = λ w. left_spares
    (refused_alone w (Withdraw c.args.release.now c.args.day.now c.args.text.now)) c.refuse.result
    _ c.refuse.ensures

pub returns-then-not-is_note-clause-kept : goal.returns-then-not-is_note-clause-kept
returns-then-not-is_note-clause-kept g c = left_plans _ _ c.refuse-then-not-is_note.result _
    (same_self _) c.refuse-then-not-is_note.ensures

pub returns-then-not-is_note-clause-alone : goal.returns-then-not-is_note-clause-alone
returns-then-not-is_note-clause-alone g c = λ w. left_spares
    (refused_alone w (Withdraw c.args.release.now c.args.day.now c.args.text.now))
    c.refuse-then-not-is_note.result _ c.refuse-then-not-is_note.ensures

pub returns-in_default-2-clause-kept : goal.returns-in_default-2-clause-kept
returns-in_default-2-clause-kept g c = left_plans _ _ c.refuse-in_default-2.result _
    (c.in_ok-row.ensures.kept) c.refuse-in_default-2.ensures

pub returns-in_default-2-clause-alone : goal.returns-in_default-2-clause-alone
returns-in_default-2-clause-alone g c = λ w. left_spares
    (refused_alone w (Withdraw c.args.release.now c.args.day.now c.args.text.now))
    c.refuse-in_default-2.result _ c.refuse-in_default-2.ensures

pub returns-in-Some-refusal_if_gone-clause-kept : goal.returns-in-Some-refusal_if_gone-clause-kept
returns-in-Some-refusal_if_gone-clause-kept g c = left_plans _ _ c.refuse-in-Some-refusal_if_gone.result _
    (c.in_ok-row.ensures.kept) c.refuse-in-Some-refusal_if_gone.ensures

pub returns-in-Some-refusal_if_gone-clause-alone : goal.returns-in-Some-refusal_if_gone-clause-alone
returns-in-Some-refusal_if_gone-clause-alone g c = λ w. left_spares
    (refused_alone w (Withdraw c.args.release.now c.args.day.now c.args.text.now))
    c.refuse-in-Some-refusal_if_gone.result _ c.refuse-in-Some-refusal_if_gone.ensures

pub returns-clause-alone : goal.returns-clause-alone
returns-clause-alone g c = λ w.
    let day = c.args.day.now in
    let text = c.args.text.now in
    made_spares (refused_alone w (Withdraw c.args.release.now day text)) c.make.result _ _
    c.make.ensures
    (not_alone day text c.in-Some.ensures.0
    (ap is_note (sym c.as_str.ensures) ∙ sym c.if-not-is_note.ensures))
