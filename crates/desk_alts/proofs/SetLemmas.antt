-- Sets of terms as lists in the order of terms.
use Rattle.std.proofs.Common.{◌≡◌, ◌↔◌, ◌∙◌, inl, inr, ⊎_elim, ℕ, ◌<◌, List, [], ◌∷◌, ◌++◌, length}
use Rattle.std.proofs.Common.{get_or, sym, ap₂, refl, arith, Some}
use Rattle.std.specs.Prelude.{slice_get, Contains}
use Rattle.std.specs.List.Sorted.{IsStrictlySortedBy}
use Rattle.std.specs.declared.cmp.Ordering.TheVariants.{Less}
use Rattle.std.proofs.lemmas.List.Elements.{All-from_recursion, recursion_from_All, All-push}
use Rattle.std.proofs.lemmas.Map.Keys.{Less-from_sorted}
use Rattle.std.proofs.lemmas.Option.{slice_get_within, get_or_from_slice_get}
use Rattle.std.proofs.lemmas.Bool.{cases_eq}
use Rattle.std.proofs.str.Laws.{order}
use Rattle.desk_base.proofs.SortedOnce.{sorted_onto, not_below_own, not_both, head_first, same_sorted}
use Rattle.desk_base.proofs.SortedOnce.{is_later}
use Rattle.desk_expr.specs.contracts.term.TermOrd.TheImpl.Laws.{total-law}
use Rattle.desk_expr.specs.declared.term.Term.{Term}
use Rattle.desk_expr.specs.Occurring.{term_order}
use Rattle.desk_alts.proofs.SameTerms.{contains_here}
use Rattle.desk_alts.specs.Sets.{IsTermSet}

pub not_below_itself : (t : Term) → term_order t t ≡ Less → ⊥
not_below_itself = not_below_own term_order total-law

pub both_below : (x y : Term) → term_order x y ≡ Less → term_order y x ≡ Less → ⊥
both_below = not_both term_order total-law

pub head_below : (x y : Term) (xs : List Term) → IsTermSet (x ∷ xs) → Contains xs y
    → term_order x y ≡ Less
head_below = head_first term_order total-law

-- two sets of the same terms are equal lists
pub same_sets : (a b : List Term) → IsTermSet a → IsTermSet b
    → ((t : Term) → Contains a t ↔ Contains b t) → a ≡ b
same_sets = same_sorted term_order total-law

pub sorted_none : IsTermSet []
unfolding IsStrictlySortedBy
sorted_none = tt

pub sorted_consed : (x : Term) (xs : List Term) → IsTermSet xs
    → ((y : Term) → Contains xs y → term_order x y ≡ Less) → IsTermSet (x ∷ xs)
sorted_consed = sorted_onto term_order

pub sorted_pushed : (xs : List Term) (y : Term) → IsTermSet xs
    → ((x : Term) → Contains xs x → term_order x y ≡ Less) → IsTermSet (xs ++ y ∷ [])
unfolding IsStrictlySortedBy
sorted_pushed [] y up below = (tt, tt)
sorted_pushed (x ∷ xs) y up below = (
  recursion_from_All (λ z. term_order x z ≡ Less) (xs ++ y ∷ [])
      (All-push (λ z. term_order x z ≡ Less) xs y
      (All-from_recursion (λ z. term_order x z ≡ Less) xs up.0)
      (below x (contains_here x xs x refl))),
  sorted_pushed xs y up.1 (λ z at. below z (is_later x xs z at)),
)

-- no term is at two places
pub distinct_table : (table : List Term) → IsTermSet table → (i j : ℕ) (t : Term)
    → slice_get table i ≡ Some t → slice_get table j ≡ Some t → i ≡ j
distinct_table table sorted i j t a b =
    let at_i = get_or_from_slice_get table i t t a in
    let at_j = get_or_from_slice_get table j t t b in
    let below : (x y : ℕ) → x < y → y < length table → get_or table x t ≡ t → get_or table y t ≡ t
    → ⊥ =
    λ x y lt within p q. not_below_itself t
    (ap₂ term_order (sym p) (sym q) ∙ Less-from_sorted term_order table x y t sorted lt within) in
    ⊎_elim
    (λ lt. absurd (below i j lt (slice_get_within table j t b) at_i at_j))
    (λ ge. elim (cases_eq i j) [
      | inl is ↦ is
      | inr ne ↦ absurd (below j i (omega (arith, ge, ne)) (slice_get_within table i t a) at_j at_i)
    ])
    (order i j)
