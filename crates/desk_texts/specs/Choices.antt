-- What is kept of a choice: the first copy of each term of an expression, and the first of all
-- other terms.
use Rattle.std.specs.Prelude.{◌≡◌, ◌⊎◌, ℕ, ◌+◌, ◌≤◌, true, false, List, length, slice_get}
use Rattle.std.specs.Prelude.{slice_index, slice_index_or, count_by, Option, Some, None, Contains}
use Rattle.desk_expr.specs.declared.term.Term.{Term}
use Rattle.desk_texts.specs.declared.choice.Kept.{Kept}
use Rattle.desk_texts.specs.Terms.{AreTerms}

-- two terms are the same, or neither is one of the expression's own
abbrev pub AreAlike : List Term → Term → Term → Type 0
AreAlike own t u = (t ≡ u) ⊎ ((Contains own t → ⊥) × (Contains own u → ⊥))

-- terms of a choice with their places there: no place comes before an earlier term's, and each term
-- of the choice has one alike that is kept, from its own place or one before it
pub record AreFirst (own chosen kept : List Term) (places : List ℕ) : Type 0 where
  pub paired : length places ≡ length kept
  pub placed : (k : ℕ) (t : Term) → slice_get kept k ≡ Some t
      → slice_get chosen (slice_index places k) ≡ Some t
  pub ordered : (j k : ℕ) → j ≤ k → k + 1 ≤ length places
      → slice_index places j ≤ slice_index places k
  pub each : (j : ℕ) (t : Term) → slice_get chosen j ≡ Some t
      → (k : ℕ) × (u : Term) × (slice_get kept k ≡ Some u) × (slice_index places k ≤ j)
      × AreAlike own t u

-- a term's place among the expression's own, or their number if it is none of them
abbrev pub IsSlot : List Term → Term → ℕ → Type 0
IsSlot own t slot = (slice_get own slot ≡ Some t) ⊎ ((Contains own t → ⊥) × (slot ≡ length own))

-- what is kept of a choice, and where a term with a slot is
pub record AreKept (own chosen : List Term) (kept : Kept) : Type 0 where
  pub first : AreFirst own chosen kept.terms.items kept.places.items
  pub slots : length kept.is_met.items ≡ length own + 1
  pub few : length kept.terms.items ≤ count_by (λ is. is) kept.is_met.items
  pub met : (slot : ℕ) → slice_index_or kept.is_met.items slot false ≡ true
      → (k : ℕ) × (t : Term) × (slice_get kept.terms.items k ≡ Some t) × IsSlot own t slot

-- what is kept of the terms that texts spell, or nothing if one spells none. It is at most one term
-- more than the expression's own
abbrev pub IsKeptOf : List Term → List (List ℕ) → Option Kept → Type 0
IsKeptOf own words None = (chosen : List Term) → AreTerms words chosen → ⊥
IsKeptOf own words (Some kept) =
    ((chosen : List Term) × AreTerms words chosen
    × AreFirst own chosen kept.terms.items kept.places.items)
    × (length kept.terms.items ≤ length own + 1)
