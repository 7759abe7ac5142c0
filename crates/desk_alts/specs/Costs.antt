-- What sets of terms cost, and which set is the cheapest.
use Rattle.std.specs.Prelude.{◌≡◌, ◌⊎◌, ℕ, ◌<◌, ◌≤◌, List, [], slice_index_or, Option, Some, None}
use Rattle.std.specs.Prelude.{IsSome, All, Contains, sum_by}
use Rattle.std.specs.Option.{unwrap_or}
use Rattle.std.specs.declared.cmp.Ordering.TheVariants.{Less}
use Rattle.desk_expr.specs.declared.term.Term.{Term}
use Rattle.desk_expr.specs.Tree.{Tree}
use Rattle.desk_expr.specs.Meaning.{Holds}
use Rattle.desk_alts.specs.Sets.{IsTermSet, set_order}

-- each term of the set has a cost
abbrev pub HasCosts : (Term → Option ℕ) → List Term → Type 0
HasCosts cost s = All (λ t. IsSome (cost t)) s

-- the sum of the terms' costs
abbrev pub set_cost : (Term → Option ℕ) → List Term → ℕ
set_cost cost s = sum_by (λ t. unwrap_or (cost t) 0) s

-- the first set is the second, or comes before it in the order of sets
abbrev pub IsUpTo : List Term → List Term → Type 0
IsUpTo s r = (s ≡ r) ⊎ (set_order s r ≡ Less)

-- of all sets that satisfy the tree and whose terms have costs, the set has the least cost, and of
-- those with this cost it is the first
pub record IsCheapest (cost : Term → Option ℕ) (e : Tree) (price : ℕ)
    (set : List Term) : Type 0 where
  pub ordered : IsTermSet set
  pub holds : Holds (Contains set) e
  pub costs : HasCosts cost set
  pub is_price : price ≡ set_cost cost set
  pub least : (s : List Term) → IsTermSet s → Holds (Contains s) e → HasCosts cost s
      → (price < set_cost cost s) ⊎ ((price ≡ set_cost cost s) × IsUpTo set s)

-- each set that satisfies the tree has a term without a cost
abbrev pub HasNoCosts : (Term → Option ℕ) → Tree → Type 0
HasNoCosts cost e = (s : List Term) → Holds (Contains s) e → HasCosts cost s → ⊥

-- the place and the cost of the first set of least cost among the first n sets, if any of these has
-- a cost
abbrev pub IsLeastOf : (Term → Option ℕ) → List (List Term) → ℕ → Option (ℕ × ℕ) → Type 0
IsLeastOf cost sets n None = (j : ℕ) → j < n → HasCosts cost (slice_index_or sets j []) → ⊥
IsLeastOf cost sets n (Some best) =
    (best.0 < n)
    × HasCosts cost (slice_index_or sets best.0 [])
    × (best.1 ≡ set_cost cost (slice_index_or sets best.0 []))
    × ((j : ℕ) → j < n → HasCosts cost (slice_index_or sets j [])
    → (best.1 < set_cost cost (slice_index_or sets j []))
    ⊎ ((best.1 ≡ set_cost cost (slice_index_or sets j [])) × (best.0 ≤ j)))
