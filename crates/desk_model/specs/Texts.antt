-- Texts: how they compare, and which are allowed for what.
use Rattle.std.specs.Prelude.{ℕ, ◌&&◌, nat_le, Bool, List, [], ◌∷◌, length, if◌then◌else◌}
use Rattle.std.specs.List.{list_all}
use Rattle.std.specs.Ordering.{nat_cmp, is_lt}
use Rattle.std.specs.Cmp.Lexicographic.{slice_cmp}
use Rattle.std.specs.Str.{bytes_eq}
use Rattle.desk_base.specs.Idstring.{is_idstring_byte}
use Rattle.desk_base.specs.Limits as most
use Rattle.desk_base.specs.Bytes.{is_shown}

-- texts sort by their bytes
abbrev pub text_below : List ℕ → List ℕ → Bool
text_below a b = is_lt (slice_cmp nat_cmp a b)

-- one day before another: days are written by year, month and day with all their digits (ISO
-- 8601-1), so they sort as dates do
abbrev pub is_before : List ℕ → List ℕ → Bool
is_before a b = text_below a b

-- a text in its place among others that are sorted, unless it is there already
abbrev pub put_new : List ℕ → List (List ℕ) → List (List ℕ)
put_new x [] = x ∷ []
put_new x (y ∷ ys) = if text_below x y then x ∷ y ∷ ys
    else (if bytes_eq x y then y ∷ ys else y ∷ put_new x ys)

-- the set of some texts, sorted
abbrev pub sorted_set : List (List ℕ) → List (List ℕ)
sorted_set [] = []
sorted_set (x ∷ xs) = put_new x (sorted_set xs)

-- the name of a release: an idstring of at most 64 bytes
abbrev pub is_release_name : List ℕ → Bool
is_release_name text = nat_le 1 (length text) && nat_le (length text) most.name_bytes
    && list_all is_idstring_byte text

-- the text of a change: 1 to 1,024 bytes without control bytes
abbrev pub is_note : List ℕ → Bool
is_note text = nat_le 1 (length text) && nat_le (length text) most.note_bytes
    && list_all is_shown text
