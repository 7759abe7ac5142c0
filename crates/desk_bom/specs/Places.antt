-- The places of identifiers among others.
use Rattle.std.specs.Prelude.{◌≡◌, ℕ, ◌+◌, ◌-◌, ◌%◌, nat_lt, nat_le, ◌&&◌, Bool, length, take, drop}
use Rattle.std.specs.Prelude.{List, [], ◌∷◌, map, Option, Some, None, if◌then◌else◌, slice_index_or}
use Rattle.std.specs.Int.{w64, from_le_bytes}
use Rattle.std.specs.Ordering.{nat_cmp}
use Rattle.std.specs.Cmp.Lexicographic.{slice_cmp}
use Rattle.std.specs.BTreeMap.{BTreeMap, get_by}
use Rattle.std.specs.Str.{bytes_eq}
use denote.Ref.{Bor}

-- a place behind one more identifier
abbrev pub later : Option ℕ → Option ℕ
later None = None
later (Some n) = Some (n + 1)

-- the place of an identifier among others, the first if it occurs twice
abbrev pub place_of : List ℕ → List (List ℕ) → Option ℕ
place_of id [] = None
place_of id (x ∷ xs) = if bytes_eq x id then Some 0 else later (place_of id xs)

-- the number that the last bytes make
abbrev pub ending : ℕ → List ℕ → ℕ
ending count id = from_le_bytes w64 (drop (length id - count) id)

-- eight of them, or four or two if there are fewer
abbrev pub tail_number : List ℕ → ℕ
tail_number id =
    if nat_le 8 (length id) then ending 8 id
    else (if nat_le 4 (length id) then ending 4 id
    else (if nat_le 2 (length id) then ending 2 id
    else 0))

-- the slot of an identifier among this many
abbrev pub slot_of : List ℕ → ℕ → ℕ
slot_of id slots = tail_number id % slots

-- the place of an identifier in a map
abbrev pub place_in : BTreeMap (Bor (List ℕ)) ℕ → List ℕ → Option ℕ
place_in m id = get_by (λ (k : Bor (List ℕ)). slice_cmp nat_cmp id k.now) m

-- the place that the slot of an identifier has
abbrev pub held_for : List ℕ → List ℕ → ℕ
held_for slots id = slice_index_or slots (slot_of id (length slots)) 0

-- this identifier is at a place
abbrev pub stands_at : List (List ℕ) → ℕ → List ℕ → Bool
stands_at ids place id = nat_lt place (length ids) && bytes_eq (slice_index_or ids place []) id

-- where a look-up finds an identifier: at the place that its slot has, or else in a map
abbrev pub found : List (List ℕ) → List ℕ → BTreeMap (Bor (List ℕ)) ℕ → List ℕ → Option ℕ
found ids slots tree id = if stands_at ids (held_for slots id) id then Some (held_for slots id)
    else place_in tree id

-- the first `count` identifiers are found at their first places, and no others
abbrev pub Finds : ℕ → List (List ℕ) → List ℕ → BTreeMap (Bor (List ℕ)) ℕ → Type 0
Finds count ids slots tree = (id : List ℕ) → found ids slots tree id ≡ place_of id (take count ids)
