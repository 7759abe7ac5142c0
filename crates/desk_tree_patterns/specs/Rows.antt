-- The places of a pattern: before each of its literal bytes, and at its end.
use Rattle.std.specs.Prelude.{◌≡◌, ◌↔◌, ◌<◌, ◌+◌, ℕ, List, [], ◌∷◌, length, drop, get_or, set, Bool}
use Rattle.std.specs.Prelude.{true, false, IsTrue}
use Rattle.desk_tree_patterns.specs.declared.glob.Piece.{Piece}
use Rattle.desk_tree_patterns.specs.declared.glob.Piece.TheVariants.{Byte, InName, InPath}
use Rattle.desk_tree_patterns.specs.declared.glob.Star.{Star}
use Rattle.desk_tree_patterns.specs.declared.glob.Star.TheVariants.{Single, Double}
use Rattle.desk_tree_patterns.specs.declared.glob.Part.{Part}
use Rattle.desk_tree_patterns.specs.declared.rows.Stars.{Stars}
use Rattle.desk_tree_patterns.specs.Glob.{IsMatch}
use Rattle.desk_tree_patterns.specs.Parts.{pieces}

-- what is at a place: `**`, else some star, else nothing
abbrev pub star : Bool → Bool → List Piece → List Piece
star true any rest = InPath ∷ rest
star false true rest = InName ∷ rest
star false false rest = rest

-- what is at this place of a pattern, before other pieces: its star, or nothing more
abbrev pub star_at : Stars → ℕ → List Piece → List Piece
star_at s at rest = star (get_or s.double.items at false) (get_or s.any.items at false) rest

-- the places of `**`, with a star at one more place
abbrev pub doubled : Star → ℕ → List Bool → List Bool
doubled Single at list = list
doubled Double at list = set list at true

-- literal bytes from a place on, with what is at each place, and other pieces
abbrev pub onward : Stars → ℕ → List ℕ → List Piece → List Piece
onward s at [] rest = star_at s at rest
onward s at (b ∷ bs) rest = star_at s at (Byte b ∷ onward s (at + 1) bs rest)

-- two lists of pieces match the same texts
abbrev pub Same : List Piece → List Piece → Type 0
Same ps qs = (text : List ℕ) → IsMatch ps text ↔ IsMatch qs text

-- the stars at each place are those of the pattern
pub record Spread (bytes : List ℕ) (parts : List Part) (s : Stars) : Type 0 where
  pub any_places : length s.any.items ≡ length bytes + 1
  pub double_places : length s.double.items ≡ length bytes + 1
  pub double_any : (at : ℕ) → IsTrue (get_or s.double.items at false)
      → IsTrue (get_or s.any.items at false)
  pub same : Same (pieces bytes parts) (onward s 0 bytes [])

-- whether the pieces from each place on match a text
abbrev pub IsRow : Stars → List ℕ → List ℕ → List Bool → Type 0
IsRow s bytes text row = (at : ℕ) → at < length bytes + 1
    → IsTrue (get_or row at false) ↔ IsMatch (onward s at (drop at bytes) []) text
