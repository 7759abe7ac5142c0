-- Texts that are read as terms one by one, and the parts of printed terms.
use Rattle.std.proofs.Common.{◌≡◌, ℕ, suc, ◌+◌, ◌-◌, ◌<◌, true, false, List, [], ◌∷◌, ◌++◌, length}
use Rattle.std.proofs.Common.{take, drop, get_or, Option, Some, None, sym, ap, subst, refl, ◌∙◌}
use Rattle.std.proofs.Common.{eqb, arith}
use Rattle.std.specs.Prelude.{codes, option_map, IfNone, IfSome}
use Rattle.std.specs.List.{starts_with}
use denote.Ref.{Bor}
use Rattle.std.proofs.Math.Seq.{take-suc, drop-cons}
use Rattle.std.proofs.lemmas.List.{take-append-drop}
use Rattle.desk_expr.specs.declared.term.Term.{Term}
use Rattle.desk_expr.specs.Spelling.{SpellsTermWithin, SpellsNoTerm}
use Rattle.desk_texts.specs.Terms.{AreTerms, behind_with}

one_more : (texts : List (List ℕ)) (ts : List Term) (text : List ℕ) (t : Term) → AreTerms texts ts
    → SpellsTermWithin text t → AreTerms (texts ++ text ∷ []) (ts ++ t ∷ [])
one_more [] [] text t are one = (one, tt)
one_more [] (u ∷ us) text t are one = absurd are
one_more (x ∷ xs) [] text t are one = absurd are
one_more (x ∷ xs) (u ∷ us) text t are one = (are.0, one_more xs us text t are.1 one)

-- the terms so far and the next one
pub next_term : (texts : List (List ℕ)) (i : ℕ) (d : List ℕ) (ts : List Term) (t : Term)
    → i < length texts → AreTerms (take i texts) ts → SpellsTermWithin (get_or texts i d) t
    → AreTerms (take (i + 1) texts) (ts ++ t ∷ [])
next_term texts i d ts t within are one =
    let after : i + 1 ≡ suc i = omega arith in
    subst (λ (xs : List (List ℕ)). AreTerms xs (ts ++ t ∷ []))
    (sym (ap (λ n. take n texts) after ∙ take-suc texts i d within))
    (one_more (take i texts) ts (get_or texts i d) t are one)

pub terms_length : (texts : List (List ℕ)) (ts : List Term) → AreTerms texts ts
    → length ts ≡ length texts
terms_length [] [] are = refl
terms_length [] (t ∷ ts) are = absurd are
terms_length (x ∷ xs) [] are = absurd are
terms_length (x ∷ xs) (t ∷ ts) are = ap suc (terms_length xs ts are.1)

bad_among : (front : List (List ℕ)) (text : List ℕ) (back : List (List ℕ)) (ts : List Term)
    → SpellsNoTerm text → AreTerms (front ++ text ∷ back) ts → ⊥
bad_among [] text back [] bad are = are
bad_among [] text back (t ∷ ts) bad are = bad t are.0
bad_among (x ∷ xs) text back [] bad are = are
bad_among (x ∷ xs) text back (t ∷ ts) bad are = bad_among xs text back ts bad are.1

-- a text that spells no term
pub bad_term : (texts : List (List ℕ)) (i : ℕ) (d : List ℕ) → i < length texts
    → SpellsNoTerm (get_or texts i d) → (ts : List Term) → AreTerms texts ts → ⊥
bad_term texts i d within bad ts are =
    let parts : texts ≡ take i texts ++ get_or texts i d ∷ drop (suc i) texts =
    sym (take-append-drop i texts)
    ∙ ap (λ (l : List (List ℕ)). take i texts ++ l) (drop-cons texts i d within) in
    bad_among (take i texts) (get_or texts i d) (drop (suc i) texts) ts bad
    (subst (λ (xs : List (List ℕ)). AreTerms xs ts) parts are)

-- what follows WITH, which was cut off at the start
pub with_off : (rest : List ℕ) (r : Option (Bor (List ℕ)))
    → IfNone r (starts_with eqb rest (codes " WITH ") ≡ false)
    → IfSome r (λ x. starts_with eqb rest (codes " WITH ") ≡ true)
    → IfSome r (λ x. x.now ≡ drop 6 rest) → option_map (λ x. x.now) r ≡ behind_with rest
with_off rest None none some is = rw none refl
with_off rest (Some x) none some is = rw some (ap Some is)
