-- Rows in the order of their keys.
use Rattle.std.specs.Prelude.{◌≡◌, ℕ, ◌-◌, ◌<◌, ◌≤◌, Bool, true, false, List, [], ◌∷◌, length, take, drop, get_or}
use Rattle.std.specs.List.{list_all, list_any, AllWithin, AllAdjacentBelow}
use Rattle.std.specs.List.Sorted.{IsNonDecreasingBy}
use Rattle.std.specs.Ordering.{is_lt, is_le, ordering_index}
use Rattle.desk_model.specs.Lists.{put}
use Rattle.std.specs.declared.cmp.Ordering.{Ordering}
use Rattle.std.specs.declared.cmp.Ordering.TheVariants.{Less, Equal, Greater}

-- each row of a list in its place, one after another
abbrev pub put_in_turn : {A : Type 0} → (A → A → Bool) → List A → List A → List A
put_in_turn below [] ys = ys
put_in_turn below (x ∷ xs) ys = put_in_turn below xs (put below x ys)

-- each row is below the next
abbrev pub Climbs : {A : Type 0} → (A → A → Bool) → List A → Type 0
Climbs below xs = AllAdjacentBelow (λ x y. below x y ≡ true) xs (length xs)

-- for rows that ascend, the sides on which they are do not fall
abbrev pub IsSideOf : {A : Type 0} → (A → A → Ordering) → (A → Ordering) → Type 0
IsSideOf {A} order side = (x y : A) → is_lt (order y x) ≡ false
    → ordering_index (side x) ≤ ordering_index (side y)

-- first come the rows before what is sought, then those that are sought, then those after them
abbrev pub Rises : {A : Type 0} → (A → Ordering) → List A → Type 0
Rises side xs = IsNonDecreasingBy (λ x. ordering_index (side x)) xs

-- the rows from low up to high are those that are sought, and no others
pub record IsRun {A : Type 0} (side : A → Ordering) (xs : List A) (low high : ℕ) : Type 0 where
  pub ordered : low ≤ high
  pub within : high ≤ length xs
  pub before : AllWithin (λ x. side x ≡ Less) xs 0 low
  pub sought : AllWithin (λ x. side x ≡ Equal) xs low high
  pub behind : AllWithin (λ x. side x ≡ Greater) xs high (length xs)

-- a place that is preceded by a row before what is sought, if by any, and has no such row itself
pub record Begins {A : Type 0} (side : A → Ordering) (xs : List A) (n : ℕ) : Type 0 where
  pub within : n ≤ length xs
  pub front : (d : A) → 0 < n → is_lt (side (get_or xs (n - 1) d)) ≡ true
  pub back : (d : A) → n < length xs → is_lt (side (get_or xs n d)) ≡ false

-- the rows from n up to high aren't after what is sought, and the one at high is, if there is one
pub record IsEnd {A : Type 0} (side : A → Ordering) (xs : List A) (n high : ℕ) : Type 0 where
  pub ordered : n ≤ high
  pub within : high ≤ length xs
  pub front : AllWithin (λ x. is_le (side x) ≡ true) xs n high
  pub back : (d : A) → high < length xs → is_le (side (get_or xs high d)) ≡ false

-- x goes in at n: after those that it isn't below, and before those that it is below
pub record IsPlace {A : Type 0} (below : A → A → Bool) (x : A) (xs : List A) (n : ℕ) : Type 0 where
  pub within : n ≤ length xs
  pub front : list_any (below x) (take n xs) ≡ false
  pub back : list_all (below x) (drop n xs) ≡ true
