-- Listed terms, one round of them at a time. Copies are skipped, since a term goes with all its
-- copies.
use Rattle.std.specs.Prelude.{◌≡◌, ◌⊎◌, ℕ, ◌<◌, ◌≤◌, List, length, slice_get, Some}
use Rattle.desk_expr.specs.declared.term.Term.{Term}
use Rattle.desk_expr.specs.Tree.{Tree}
use Rattle.desk_expr.specs.Meaning.{CanGo}

-- the term at a place is listed before it too
abbrev pub IsCopy : List Term → ℕ → Type 0
IsCopy chosen place = (first : ℕ) × (first < place)
    × (slice_get chosen first ≡ slice_get chosen place)

-- candidates are places of listed terms
abbrev pub AreWithin : List Term → List ℕ → Type 0
AreWithin chosen candidates = (k place : ℕ) → slice_get candidates k ≡ Some place
    → place < length chosen

-- the candidates of a round that begins at a place: they are in rising order, and what is left out
-- before the next round are copies
pub record IsRound (chosen : List Term) (from next : ℕ) (candidates : List ℕ) : Type 0 where
  pub within : (k place : ℕ) → slice_get candidates k ≡ Some place → place < next
  pub rises : (j k p q : ℕ) → slice_get candidates j ≡ Some p → slice_get candidates k ≡ Some q
      → p < q → j < k
  pub covers : (place : ℕ) → from ≤ place → place < next
      → IsCopy chosen place ⊎ ((k : ℕ) × (slice_get candidates k ≡ Some place))

-- the term at this candidate can go, and none at the candidates before it can
pub record IsFirstToGo (chosen : List Term) (e : Tree) (candidates : List ℕ)
    (place : ℕ) : Type 0 where
  pub k : ℕ
  pub at : slice_get candidates k ≡ Some place
  pub goes : CanGo chosen e place
  pub first : (j p : ℕ) → j < k → slice_get candidates j ≡ Some p → CanGo chosen e p → ⊥
