-- There is only one verdict on terms for an expression.
use Rattle.std.proofs.Common.{◌≡◌, ◌∙◌, inl, inr, ℕ, List, [], ◌∷◌, sym, subst, ap, refl}
use Rattle.std.proofs.Math.Nat.{eq-or-lt_of_le}
use Rattle.std.proofs.lemmas.Bool.{cases_lt}
use Rattle.std.specs.Prelude.{Contains}
use Rattle.desk_base.specs.declared.profile.Profile.{Profile}
use Rattle.desk_base.specs.declared.profile.Profile.TheVariants.{Capitals}
use Rattle.desk_expr.specs.declared.term.Term.{Term}
use Rattle.desk_expr.specs.Tree.{Tree}
use Rattle.desk_expr.specs.Spelling.{SpellsWithinBy}
use Rattle.desk_expr.specs.Meaning.{Holds, CanGo, IsFirst}
use Rattle.desk_expr.proofs.ParseLemmas.{spells_once}
use Rattle.desk_expr.proofs.TermLemmas.{spells_term_once}
use Rattle.desk_alts.proofs.Minimal.{holds_more, not_minimal_if_can_go}
use Rattle.desk_model.specs.declared.reading.Verdict.{Verdict}
use Rattle.desk_model.specs.declared.reading.Verdict.TheVariants.{NotEnough, Superfluous, Minimal}
use Rattle.desk_texts.specs.Expressions.{IsExpression, IsVerdict, Judges}
use Rattle.desk_texts.specs.Terms.{AreTerms}

pub one_tree : (profile : Profile) (text : List ℕ) (e f : Tree) → IsExpression profile text e
    → IsExpression profile text f → e ≡ f
one_tree profile text e f (some, spells) (some', spells') = one text spells spells'
  where
    one : (t : List ℕ) → SpellsWithinBy profile t e → SpellsWithinBy profile t f → e ≡ f
    one t (short, ts, are, h, keeps) (short', us, are', k, keeps') = spells_once profile t e f
        (ts, are, h) (us, are', k)

pub same_terms : (texts : List (List ℕ)) (ts us : List Term) → AreTerms texts ts → AreTerms texts us
    → ts ≡ us
same_terms [] [] [] h k = refl
same_terms [] [] (u ∷ us) h k = absurd k
same_terms [] (t ∷ ts) us h k = absurd h
same_terms (x ∷ xs) [] us h k = absurd h
same_terms (x ∷ xs) (t ∷ ts) [] h k = absurd k
same_terms (x ∷ xs) (t ∷ ts) (u ∷ us) h k =
    let first = spells_term_once Capitals x t u h.0.1 k.0.1 in
    let rest = same_terms xs ts us h.1 k.1 in
    (λ i. first i ∷ rest i)

module _ (e : Tree) (ts : List Term) where
  enough_if_can_go : (i : ℕ) → CanGo ts e i → Holds (Contains ts) e
  enough_if_can_go i go = holds_more _ _ (λ t there. there.0) e go.2

  one_first : (i j : ℕ) → IsFirst (CanGo ts e) i → IsFirst (CanGo ts e) j → i ≡ j
  one_first i j h k = elim (cases_lt i j) [
    | inl less ↦ absurd (k.1 i less h.0)
    | inr more ↦ elim (eq-or-lt_of_le more)
        [ inl same ↦ sym same | inr less ↦ absurd (h.1 j less k.0) ]
  ]

  pub one_verdict : (a b : Verdict) → IsVerdict e ts a → IsVerdict e ts b → a ≡ b
  one_verdict Minimal Minimal h k = refl
  one_verdict Minimal NotEnough h k = absurd (k h.0)
  one_verdict Minimal (Superfluous j) h k = absurd (not_minimal_if_can_go ts e j k.0 h)
  one_verdict NotEnough Minimal h k = absurd (h k.0)
  one_verdict NotEnough NotEnough h k = refl
  one_verdict NotEnough (Superfluous j) h k = absurd (h (enough_if_can_go j k.0))
  one_verdict (Superfluous i) Minimal h k = absurd (not_minimal_if_can_go ts e i h.0 k)
  one_verdict (Superfluous i) NotEnough h k = absurd (k (enough_if_can_go i h.0))
  one_verdict (Superfluous i) (Superfluous j) h k = ap Superfluous (one_first i j h k)

-- a value and texts are judged in only one way
pub judged_once : (profile : Profile) (text : List ℕ) (words : List (List ℕ)) (a b : Verdict)
    → Judges profile text words a → Judges profile text words b → a ≡ b
judged_once profile text words a b (inl (e, ts, is, are, v)) (inl (f, us, is', are', v')) =
    let tree : f ≡ e = one_tree profile text f e is' is in
    let terms : us ≡ ts = same_terms words us ts are' are in
    one_verdict e ts a b v (subst (λ x. IsVerdict x ts b) tree
    (subst (λ l. IsVerdict f l b) terms v'))
judged_once profile text words a b (inl (e, ts, is, are, v)) (inr (none, is')) = absurd (none e ts
    is are)
judged_once profile text words a b (inr (none, is)) (inl (e, ts, is', are, v)) = absurd (none e ts
    is' are)
judged_once profile text words a b (inr (none, is)) (inr (none', is')) = is ∙ sym is'
