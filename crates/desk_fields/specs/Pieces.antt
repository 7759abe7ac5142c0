-- The pieces of a tag-value text (SPDX 2.3, clause 4.4): blank lines, comments that begin with `#`,
-- fields `Tag: value` on one line, and fields whose value is in <text> .. </text>, over several
-- lines if need be.
use Rattle.std.specs.Prelude.{◌≡◌, ◌≢◌, ℕ, ◌<◌, ◌==◌, ◌||◌, Bool, List, ◌∷◌, ◌++◌, length}
use Rattle.std.specs.Prelude.{slice_index, All, IsTrue, Option, Some, None, codes}
use Rattle.desk_fields.specs.Text.{skip_blanks, trimmed}

-- no line ends inside
abbrev pub NoLf : List ℕ → Type 0
NoLf line = All (λ b. b ≢ 10) line

-- only blanks, or nothing
abbrev pub AllBlank : List ℕ → Type 0
AllBlank text = length (skip_blanks text) ≡ 0

-- only blanks, perhaps followed by a comment
abbrev pub is_bare : List ℕ → Bool
is_bare line = length (skip_blanks line) == 0 || slice_index (skip_blanks line) 0 == 35

-- what precedes the first colon of a field: its tag, perhaps with blanks at the ends
pub record IsTagged (before : List ℕ) : Type 0 where
  pub no_lf : NoLf before
  pub no_colon : All (λ b. b ≢ 58) before
  pub some : 0 < length (trimmed before)
  pub no_comment : slice_index (trimmed before) 0 ≢ 35

-- the value begins with <text>
abbrev pub Opens : List ℕ → Type 0
Opens after = (inner : List ℕ) × (skip_blanks after ≡ codes "<text>" ++ inner)

-- a field on one line is what precedes its first colon and what follows it; one in <text> has a gap
-- of blanks before <text>, its value, and a tail of blanks after </text>
pub data Piece : Type 0 where
  bare : (line : List ℕ) → Piece
  one_line : (before after : List ℕ) → Piece
  text : (before gap value tail : List ℕ) → Piece

-- what a text field has up to its value, with what follows
abbrev pub opened : List ℕ → List ℕ → List ℕ → List ℕ
opened before gap inner = before ++ (58 ∷ (gap ++ (codes "<text>" ++ inner)))

-- the bytes of a piece, without the end of its last line
abbrev pub bytes_of : Piece → List ℕ
bytes_of (bare line) = line
bytes_of (one_line before after) = before ++ (58 ∷ after)
bytes_of (text before gap value tail) = opened before gap (value ++ (codes "</text>" ++ tail))

-- in the value followed by </text>, the first </text> is the one at the end
abbrev pub IsFirstEnd : List ℕ → Type 0
IsFirstEnd value = (xs ys : List ℕ) → value ++ codes "</text>" ≡ xs ++ (codes "</text>" ++ ys)
    → length ys ≡ 0

-- what each piece must be
abbrev pub IsPiece : Piece → Type 0
IsPiece (bare line) = NoLf line × IsTrue (is_bare line)
IsPiece (one_line before after) = IsTagged before × NoLf after × (Opens after → ⊥)
IsPiece (text before gap value tail) = IsTagged before × AllBlank gap × IsFirstEnd value
    × AllBlank tail

-- the tag and the value that a piece gives
abbrev pub given : Piece → Option (List ℕ × List ℕ)
given (bare line) = None
given (one_line before after) = Some (trimmed before, trimmed after)
given (text before gap value tail) = Some (trimmed before, value)
