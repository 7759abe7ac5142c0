use Rattle.std.proofs.Common.{◌≡◌, ◌∙◌, ◌++◌, ℕ, List, [], ◌∷◌, ap, ap₂, append_assoc, map}
use Rattle.std.specs.Prelude.{filter, is_some}
use Rattle.std.proofs.lemmas.Result.{on_ok_weaker}
use Rattle.desk_model.specs.Answers.{unchosen, unconcluded}
use Rattle.desk_model.specs.Keys.{is_choice_of}
use Rattle.desk_model.specs.Obstacles.{applying, term_refusals}
use Rattle.desk_model.specs.declared.refusal.Refusal.{Refusal}
use Rattle.desk_history.specs.FromTables.{choice_found, conclusion_found, rules_found}
use Rattle.desk_access.proofs.Chains.{looked_err, same_then_kept, same_then_same}
use Rattle.desk_wanting.proofs.Looks.{looked_after, looked_kept}
use Rattle.desk_wanting.proofs.package.add_package_refusals.Goals as goal

pub returns-clause-found : goal.returns-clause-found
returns-clause-found g c = λ w right.
    let row = c.args.row.now in
    let one = c.in_ok-conclusion_of.ensures in
    let two = c.in_ok-terms.ensures in
    let last = c.add_term_refusals.ensures in
    on_ok_weaker c.add_term_refusals.result (λ told honest t held.
    let honest'' = (looked_kept _ _ c.add_term_refusals.result last.kept).spared.honest honest in
    let honest' = two.kept.kept.spared.honest honest'' in
    let held' = one.kept.kept.spared.holds t held in
    let held'' = two.kept.kept.spared.holds t held' in
    let terms : c.in_ok-terms.terms.items ≡ choice_found t c.args.release.now row =
    two.found honest'' t held'
    ∙ ap₂ (λ (r i : List ℕ). map (λ row. row.term)
    (filter (is_choice_of r row.document i) t.choice)) c.as_str.ensures c.as_str-2.ensures in
    let concluded : c.is_found-is_concluded.result ≡ is_some (conclusion_found w t row) =
    c.is_found-is_concluded.ensures ∙ ap is_some (one.found w right honest' t held) in
    let bare = λ (terms : List (List ℕ)). applying
    (unconcluded (conclusion_found w t row) row ∷ unchosen row terms ∷ []) in
    let behind = λ (terms : List (List ℕ)). term_refusals w t.adoption (rules_found t)
    c.args.form.now terms row in
    told honest t held''
    ∙ ap₂ (λ (a b : List Refusal). a ++ b)
    (c.in_ok-add_bare.ensures (conclusion_found w t row) concluded
    ∙ ap (λ (terms : List (List ℕ)). c.args.refusals.now.items ++ bare terms)
    (c.as_slice.ensures.value ∙ terms))
    (ap behind (c.as_slice-2.ensures.value ∙ terms))
    ∙ append_assoc c.args.refusals.now.items (bare (choice_found t c.args.release.now row))
    (behind (choice_found t c.args.release.now row)))
    (last.found w right)

pub returns-clause-kept : goal.returns-clause-kept
returns-clause-kept g c =
    looked_after _ _ _ c.add_term_refusals.result
    (same_then_same _ _ _ c.in_ok-conclusion_of.ensures.kept c.in_ok-terms.ensures.kept)
    c.add_term_refusals.ensures.kept

pub returns-in_err-terms-clause-kept : goal.returns-in_err-terms-clause-kept
returns-in_err-terms-clause-kept g c =
    looked_err _ _ c.from_residual-in_err-terms.result c.from_residual-in_err-terms.ensures.0
    (same_then_kept _ _ _ c.in_ok-conclusion_of.ensures.kept c.in_err-terms.ensures.kept)
