-- Rows in order, cut into blocks.
use Rattle.std.specs.Prelude.{◌≡◌, ℕ, suc, ◌+◌, ◌^◌, ◌<◌, ◌≤◌, Bool, true, false, List, [], ◌∷◌}
use Rattle.std.specs.Prelude.{length, take, drop, filter, flat_map, get_or, Vec, vec_len, not, ◌&&◌}
use Rattle.std.specs.Vec.{vec_capacity}
use Rattle.std.specs.declared.alloc.Global.{Global}
use Rattle.std.specs.List.{list_all, list_any}
use Rattle.std.specs.Ordering.{is_lt, is_le}
use Rattle.std.specs.declared.cmp.Ordering.{Ordering}

-- the rows of all blocks
abbrev pub rows_in : {R : Type 0} → List (Vec R Global) → List R
rows_in blocks = flat_map (λ block. block.items) blocks

-- a block isn't empty
abbrev pub has_rows : {A : Type 0} → List A → Bool
has_rows [] = false
has_rows (x ∷ xs) = true

-- each block but the first has a row
abbrev pub are_filled : {R : Type 0} → List (Vec R Global) → Bool
are_filled blocks = list_all (λ block. has_rows block.items) (drop 1 blocks)

-- each block has a row
abbrev pub are_all_filled : {R : Type 0} → List (Vec R Global) → Bool
are_all_filled blocks = list_all (λ block. has_rows block.items) blocks

-- the last of a list
abbrev pub last_of : {A : Type 0} → A → List A → A
last_of m [] = m
last_of m (x ∷ xs) = last_of x xs

-- whether the last row, if there is one, passes a test
abbrev pub ends_in : {A : Type 0} → (A → Bool) → List A → Bool
ends_in test [] = true
ends_in test (x ∷ xs) = test (last_of x xs)

-- the rows of the blocks before the n-th pass a test, and those of the blocks after it do not
pub record IsSplit {R : Type 0} (test : R → Bool) (blocks : List (Vec R Global))
    (n : ℕ) : Type 0 where
  pub within : n ≤ length blocks
  pub front : list_all test (rows_in (take n blocks)) ≡ true
  pub back : list_any test (rows_in (drop (suc n) blocks)) ≡ false

-- all rows that are sought are in the blocks from low up to high
pub record IsBlockRun {R : Type 0} (side : R → Ordering) (blocks : List (Vec R Global))
    (low high : ℕ) : Type 0 where
  pub ordered : low ≤ high
  pub within : high ≤ length blocks
  pub before : list_all (λ row. is_lt (side row)) (rows_in (take low blocks)) ≡ true
  pub behind : list_any (λ row. is_le (side row)) (rows_in (drop high blocks)) ≡ false

-- a row goes in after some rows and before others
abbrev pub is_between : {A : Type 0} → (A → A → Bool) → List A → List A → A → Bool
is_between below front back row = not (list_any (below row) front) && list_all (below row) back

-- among the rows that are left, some more go into the block at a place, which has room for them,
-- and all of them can be counted
pub record HasRoom {R : Type 0} (below : R → R → Bool) (left : R → Bool) (more : List R)
    (blocks : List (Vec R Global)) (at : ℕ) : Type 0 where
  pub within : at < length blocks
  pub room : (d : Vec R Global)
      → vec_len (get_or blocks at d) + length more ≤ vec_capacity (get_or blocks at d)
  pub fits : length (rows_in blocks) + length more < 2 ^ 64
  pub place : list_all (is_between below (filter left (rows_in (take at blocks)))
      (filter left (rows_in (drop (suc at) blocks)))) more ≡ true
