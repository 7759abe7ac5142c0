-- What the first piece of a text gives.
use Rattle.std.specs.Prelude.{◌≡◌, ℕ, List, Option, Some, None}
use Rattle.desk_base.specs.declared.lines.LineEnd.{LineEnd}
use Rattle.desk_fields.specs.declared.scan.Field.{Field}
use Rattle.desk_fields.specs.declared.scan.Found.{Found}
use Rattle.desk_fields.specs.Pieces.{Piece, given}
use Rattle.desk_fields.specs.Cutting.{Begins, line_after, FieldText}

-- the tag and the value that a field borrows, with its line
abbrev pub field_text : Field → FieldText
field_text f = record { line = f.line; tag = f.tag.now; value = f.value.now }

-- the piece is no field and none is given, or the field has the piece's tag and value, and the line
-- that the piece begins in
abbrev pub IsGiven : ℕ → Option (List ℕ × List ℕ) → Option Field → Type 0
IsGiven line None None = Unit {0}
IsGiven line (Some g) (Some f) = (f.line ≡ line) × (f.tag.now ≡ g.0) × (f.value.now ≡ g.1)
IsGiven line _ _ = ⊥

-- the first piece of the text, what follows it, the line in which the next piece begins, and the
-- field if the piece is one
pub record IsFound (line : ℕ) (text : List ℕ) (f : Found) : Type 0 where
  pub piece : Piece
  pub end : LineEnd
  pub begins : Begins text piece end f.rest.now
  pub next : f.line ≡ line_after line piece
  pub field : IsGiven line (given piece) f.field
