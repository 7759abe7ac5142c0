-- When an expression is satisfied, and which sets satisfy it minimally (SPDX 2.3, Annex D.4). A
-- list of terms stands for the set of its terms.
use Rattle.std.specs.Prelude.{◌≡◌, ◌≢◌, ◌⊎◌, ℕ, ◌<◌, List, slice_get, Some, Contains}
use Rattle.desk_expr.specs.declared.term.Term.{Term}
use Rattle.desk_expr.specs.Tree.{Tree, Trees, one, all, any, no_more, more}

-- the set of terms satisfies the tree: One if it has the term, All if each part holds, Any if some
-- part does
abbrev mutual
  -- the set is given as which terms it has
  pub Holds : (Term → Type 0) → Tree → Type 0
  Holds set (one t) = set t
  Holds set (all ts) = AllHold set ts
  Holds set (any ts) = SomeHolds set ts

  -- each part holds; so it is for no parts at all
  pub AllHold : (Term → Type 0) → Trees → Type 0
  AllHold set no_more = Unit {0}
  AllHold set (more t ts) = Holds set t × AllHold set ts

  -- some part holds; for no parts none does
  pub SomeHolds : (Term → Type 0) → Trees → Type 0
  SomeHolds set no_more = ⊥
  SomeHolds set (more t ts) = Holds set t ⊎ SomeHolds set ts

-- a subset that lacks some term
abbrev pub IsSubset : List Term → List Term → Type 0
IsSubset few many = (t : Term) → Contains few t → Contains many t

-- each term of the few is among the many, and one of the many is missing
abbrev pub IsProperSubset : List Term → List Term → Type 0
IsProperSubset few many = IsSubset few many × (lacked : Term) × Contains many lacked
    × (Contains few lacked → ⊥)

-- the chosen terms satisfy the tree, and no proper subset of them does
abbrev pub IsMinimal : List Term → Tree → Type 0
IsMinimal chosen e = Holds (Contains chosen) e
    × ((few : List Term) → IsProperSubset few chosen → Holds (Contains few) e → ⊥)

-- the chosen set without one term
abbrev pub Without : List Term → Term → Term → Type 0
Without chosen gone t = Contains chosen t × (t ≢ gone)

-- the tree is satisfied even without the term at the place
abbrev pub CanGo : List Term → Tree → ℕ → Type 0
CanGo chosen e i = (t : Term) × (slice_get chosen i ≡ Some t) × Holds (Without chosen t) e

-- the first place at which the fact holds
abbrev pub IsFirst : (ℕ → Type 0) → ℕ → Type 0
IsFirst P i = P i × ((j : ℕ) → j < i → P j → ⊥)
