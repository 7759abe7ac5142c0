-- Which terms of a table a set of places chooses, and the minimal such sets of a tree.
use Rattle.std.specs.Prelude.{◌≡◌, ◌↔◌, ◌⊎◌, ℕ, length, ◌-◌, ◌<◌, ◌≤◌, List, slice_get, Some, Contains}
use Rattle.std.specs.Int.{bit_at}
use Rattle.std.specs.List.Sorted.{IsStrictlySortedBy}
use Rattle.desk_expr.specs.declared.term.Term.{Term}
use Rattle.desk_expr.specs.Tree.{Tree}
use Rattle.desk_expr.specs.Meaning.{Holds}
use Rattle.desk_expr.specs.Occurring.{leaves, term_order}
use Rattle.desk_alts.specs.declared.masks.Mask.{Mask}
use Rattle.desk_alts.specs.Masks.{IsSubset, IsAbove, AreApart}

-- the place is in the set
abbrev pub HasPlace : Mask → ℕ → Type 0
HasPlace m k = ((k < 64) × (bit_at m.low k ≡ 1)) ⊎ ((64 ≤ k) × (bit_at m.high (k - 64) ≡ 1))

-- the term is in the table at a place of the set
abbrev pub Chosen : List Term → Mask → Term → Type 0
Chosen table m t = (k : ℕ) × (slice_get table k ≡ Some t) × HasPlace m k

-- the set of places satisfies the tree, and no other subset of it does
abbrev pub IsMinimalMask : List Term → Tree → Mask → Type 0
IsMinimalMask table e m = Holds (Chosen table m) e
    × ((n : Mask) → IsSubset n m → Holds (Chosen table n) e → IsSubset m n)

-- the listed sets are the minimal ones: a set satisfies the tree if and only if some listed set is
-- a subset of it, and none is a subset of another
pub record AreMinimal (table : List Term) (e : Tree) (xs : List Mask) : Type 0 where
  pub exact : (m : Mask) → Holds (Chosen table m) e ↔ IsAbove xs m
  pub apart : AreApart xs

-- the table has each term of the tree, its terms are in order, and its places fit in a set
pub record IsTableFor (table : List Term) (e : Tree) : Type 0 where
  pub listed : (t : Term) → Contains (leaves e) t → Contains table t
  pub ordered : IsStrictlySortedBy term_order table
  pub few : length table ≤ 128

-- the set has the terms that the set of places chooses
abbrev pub IsChoice : List Term → Mask → List Term → Type 0
IsChoice table m s = IsStrictlySortedBy term_order s
    × ((t : Term) → Contains s t ↔ Chosen table m t)
