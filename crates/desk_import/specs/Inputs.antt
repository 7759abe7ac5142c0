-- What is read of an input file.
use Rattle.std.specs.Prelude.{◌≡◌, ◌⊎◌, ℕ, ◌+◌, ◌<◌, ◌≤◌, Bool, false, true, List, length, take, slice_index}
use Rattle.std.specs.Int.{is_in_range}

-- all bytes or, of more than 64 MiB, these and the next byte, which shows that there are more
abbrev pub input_of : List ℕ → List ℕ
input_of all = take 67108865 all

-- a byte that continues a character (UTF-8, RFC 3629, section 3)
abbrev pub continues : ℕ → Bool
continues byte = is_in_range 0x80 0xBF byte

-- The last character of some bytes, which may be cut short, begins at this place, and all bytes
-- behind it continue it. It has at most four.
pub record IsLastStart (bytes : List ℕ) (start : ℕ) : Type 0 where
  pub inside : start < length bytes
  pub near : length bytes ≤ start + 4
  pub behind : (i : ℕ) → start < i → i < length bytes → continues (slice_index bytes i) ≡ true
  pub begins : (continues (slice_index bytes start) ≡ false) ⊎ (start + 4 ≡ length bytes)

-- a text of at most 64 MiB as it is, and of a larger one what is read without its last character
abbrev pub IsTextRead : List ℕ → List ℕ → Type 0
IsTextRead all bytes =
    (length all ≤ 67108864 → bytes ≡ all)
    × (67108864 < length all → (start : ℕ) × IsLastStart (input_of all) start
    × (bytes ≡ take start all))
