-- Texts that a composed value can contain.
use Rattle.std.specs.Prelude.{ℕ, Bool, ◌&&◌, ◌||◌, ◌==◌, not, nat_lt, List, length, codes}
use Rattle.std.specs.List.{list_any}
use Rattle.std.specs.Str.{bytes_eq}
use Rattle.desk_base.specs.Bytes.{is_blank}
use Rattle.desk_fields.specs.Text.{trimmed}

-- a word is written between blanks, so it contains none
abbrev pub is_word : List ℕ → Bool
is_word text = nat_lt 0 (length text) && not (list_any is_blank text)

-- a name in a list is written between commas, so it contains none, and no blanks at its ends
abbrev pub is_name : List ℕ → Bool
is_name text = not (list_any (λ b. b == 44) text) && bytes_eq (trimmed text) text

-- what the standard writes without <text>
abbrev pub is_keyword : List ℕ → Bool
is_keyword text = bytes_eq text (codes "NONE") || bytes_eq text (codes "NOASSERTION")
