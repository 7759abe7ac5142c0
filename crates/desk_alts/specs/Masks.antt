-- Sets of places as numbers, and lists of such sets.
use Rattle.std.specs.Prelude.{◌≡◌, ◌↔◌, ◌⊎◌, ℕ, ◌<◌, ◌≤◌, List, [], ◌∷◌, length, slice_index, bit_or, map}
use Rattle.std.specs.Int.{bit_at}
use Rattle.std.specs.List.{Any, AllPairs}
use Rattle.desk_alts.specs.declared.masks.Mask.{Mask}
use Rattle.desk_alts.specs.declared.masks.Union.{Union}

-- no bit of the first is outside the second
abbrev pub IsWithin : ℕ → ℕ → Type 0
IsWithin a b = (k : ℕ) → bit_at a k ≡ 1 → bit_at b k ≡ 1

-- some kept mask, in two columns, has no bit outside (low, high)
abbrev pub IsCovered : ℕ → ℕ → List ℕ → List ℕ → Type 0
IsCovered low high lows highs = (i : ℕ) × (i < length lows) × IsWithin (slice_index lows i) low
    × IsWithin (slice_index highs i) high

-- each place of the first set is in the second; the two halves of 64 places are compared apart
abbrev pub IsSubset : Mask → Mask → Type 0
IsSubset x y = IsWithin x.low y.low × IsWithin x.high y.high

-- some listed set is a subset
abbrev pub IsAbove : List Mask → Mask → Type 0
IsAbove xs m = Any (λ x. IsSubset x m) xs

-- the sets that two columns keep
abbrev pub masks : List ℕ → List ℕ → List Mask
masks [] highs = []
masks (low ∷ lows) [] = []
masks (low ∷ lows) (high ∷ highs) = record { low = low; high = high } ∷ masks lows highs

-- the union
abbrev pub united : Mask → Mask → Mask
united x y = record { low = bit_or x.low y.low; high = bit_or x.high y.high }

-- no listed set is a subset of another
abbrev pub AreApart : List Mask → Type 0
AreApart xs = AllPairs (λ x y. (IsSubset x y → ⊥) × (IsSubset y x → ⊥)) xs

-- above the new list are the sets above the old one, and those for which the fact holds
abbrev pub Adds : List Mask → List Mask → (Mask → Type 0) → Type 0
Adds old new Q = (m : Mask) → IsAbove new m ↔ (IsAbove old m ⊎ Q m)

-- the same for the kept masks from a place up to another
abbrev pub IsCoveredBetween : ℕ → ℕ → List ℕ → List ℕ → ℕ → ℕ → Type 0
IsCoveredBetween low high lows highs from to = (i : ℕ) × (from ≤ i) × (i < to)
    × IsWithin (slice_index lows i) low × IsWithin (slice_index highs i) high

-- the sets of some unions
abbrev pub union_masks : List Union → List Mask
union_masks us = map (λ u. u.mask) us
