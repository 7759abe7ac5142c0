use Rattle.std.proofs.Common.{◌≡◌, ◌∙◌, sym, ℕ, List, drop, ◌+◌, ◌∷◌}
use Rattle.desk_base.proofs.Lists.{drop_item}
use Rattle.desk_model.specs.Answers.{first_unruled}
use Rattle.desk_model.specs.Raised.{frozen_for_terms, owed_for_terms}
use Rattle.desk_model.specs.declared.row.PackageRow.{PackageRow}
use Rattle.desk_history.specs.FromTables.{rules_found}
use Rattle.desk_access.proofs.Chains.{same_then_same}
use Rattle.desk_duties.proofs.Walking.{more_of, terms_fail, terms_on, TermsOn}
use Rattle.desk_duties.proofs.gathering.freeze_terms.Goals as goal

pub returns-in-Some-clause-gathered : goal.returns-in-Some-clause-gathered
returns-in-Some-clause-gathered g c =
    let form : List ℕ = c.args.freezing.now.form.now in
    let r : List ℕ = c.args.freezing.now.release.now in
    let p : PackageRow = c.args.row.now in
    let terms : List (List ℕ) = c.args.terms.now in
    let i : ℕ = c.loop-term.term-index in
    let term : List ℕ = c.term-item.result in
    let split : drop i terms ≡ term ∷ drop (i + 1) terms =
    drop_item terms i term c.loop-term-test.true c.term-item.is in
    let one = c.in_ok-refusal.ensures in
    λ w right h t held.
    sym {a = first_unruled w t.adoption (rules_found t) form p (drop i terms)}
    (c.loop-term.invariant.gathered w right (one.kept.kept.spared.honest h) t held).unruled
    ∙ terms_fail w t.adoption (rules_found t) form r p (drop i terms) (drop (i + 1) terms) term
    c.loop-term.gathered c.freeze_term.new.gathered c.in_ok-refusal.field-0 c.in-Some.refusal split
    (one.gathered w right h t (c.loop-term.invariant.same.kept.spared.holds t held)) c.in-Some.is

pub loop-term-preserved : goal.loop-term-preserved
loop-term-preserved g c =
    let form : List ℕ = c.args.freezing.now.form.now in
    let r : List ℕ = c.args.freezing.now.release.now in
    let p : PackageRow = c.args.row.now in
    let terms : List (List ℕ) = c.args.terms.now in
    let i : ℕ = c.loop-term.term-index in
    let term : List ℕ = c.term-item.result in
    let rest : List (List ℕ) = drop (i + 1) terms in
    let split : drop i terms ≡ term ∷ rest =
    drop_item terms i term c.loop-term-test.true c.term-item.is in
    let one = c.in_ok-refusal.ensures in
    record {
      same = same_then_same _ _ _ c.loop-term.invariant.same one.kept;
      gathered = λ w right h t held.
          let before = c.loop-term.invariant.gathered w right (one.kept.kept.spared.honest h) t
          held in
          let on : TermsOn w t.adoption (rules_found t) form r p (drop i
          terms) rest term c.loop-term.gathered c.freeze_term.new.gathered =
          terms_on w t.adoption (rules_found t) form r p (drop i terms) rest term
          c.loop-term.gathered c.freeze_term.new.gathered c.in_ok-refusal.field-0 split
          (one.gathered w right h t (c.loop-term.invariant.same.kept.spared.holds t held))
          c.in_default.is in
          record {
            unruled = sym on.unruled ∙ before.unruled;
            frozen = more_of c.loop-term.gathered.frozen.items
                c.freeze_term.new.gathered.frozen.items _
                (frozen_for_terms w t.adoption (rules_found t) form r p (drop i terms))
                (frozen_for_terms w t.adoption (rules_found t) form r p rest) _ on.new_frozen
                on.frozen before.frozen;
            owed = more_of c.loop-term.gathered.owed.items c.freeze_term.new.gathered.owed.items _
                (owed_for_terms w t.adoption (rules_found t) form r p (drop i terms))
                (owed_for_terms w t.adoption (rules_found t) form r p rest) _ on.new_owed on.owed
                before.owed;
          };
    }
