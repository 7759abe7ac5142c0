-- Which field comes next, after pieces that give none.
use Rattle.std.specs.Prelude.{◌≡◌, ℕ, ◌+◌, ◌≤◌, List, [], ◌∷◌, length, Option, Some, None, Result, Ok, Err}
use Rattle.desk_base.specs.declared.lines.LineEnd.{LineEnd}
use Rattle.desk_fields.specs.declared.fault.DocFault.{DocFault}
use Rattle.desk_fields.specs.declared.scan.Field.{Field}
use Rattle.desk_fields.specs.declared.scanner.Scanner.{Scanner}
use Rattle.desk_fields.specs.Pieces.{Piece, given}
use Rattle.desk_fields.specs.Cutting.{Begins, Fails, FieldText, line_after, with_front}
use Rattle.desk_fields.specs.Found.{field_text}

-- pieces that give no field lead from the text at a line to the text at another
pub data Skips (line : ℕ) (text : List ℕ) : ℕ → List ℕ → Type 0 where
  here : Skips line text line text
  further : (at : ℕ) (whole : List ℕ) (p : Piece) (end : LineEnd) (rest : List ℕ)
      → Skips line text at whole → Begins whole p end rest → given p ≡ None
      → Skips line text (line_after at p) rest

-- the first field of the text at a line, the line after it, and what follows it
pub record IsNext (line : ℕ) (text : List ℕ) (field : FieldText) (after : ℕ)
    (rest : List ℕ) : Type 0 where
  pub whole : List ℕ
  pub skips : Skips line text field.line whole
  pub piece : Piece
  pub end : LineEnd
  pub begins : Begins whole piece end rest
  pub gives : given piece ≡ Some (field.tag, field.value)
  pub behind : after ≡ line_after field.line piece

-- some pieces that give no field, followed by what begins with none
pub record FailsNext (line : ℕ) (text : List ℕ) (fault : DocFault) : Type 0 where
  pub at : ℕ
  pub whole : List ℕ
  pub skips : Skips line text at whole
  pub fails : Fails at whole fault

-- the first field of a text, if it has one, or else its end
abbrev pub Reaches : ℕ → List ℕ → Option Field → ℕ → List ℕ → Type 0
Reaches line text None after rest = Skips line text after rest
Reaches line text (Some f) after rest = IsNext line text (field_text f) after rest

-- no field is left; or the next one, up to whose end no more lines than bytes have passed; or a
-- fault, after which nothing is read
abbrev pub FieldGiven : Scanner → Option (Result Field DocFault) → Scanner → Type 0
FieldGiven s None new = (at : ℕ) × Skips s.line s.rest.now at [] × (new.rest.now ≡ [])
FieldGiven s (Some (Ok f)) new =
    IsNext s.line s.rest.now (field_text f) new.line new.rest.now
    × (new.line + length new.rest.now ≤ s.line + length s.rest.now)
FieldGiven s (Some (Err fault)) new = FailsNext s.line s.rest.now fault × (new.rest.now ≡ [])

-- what the fields that were returned one by one say about the text: all of them, or the fault
abbrev pub reading : List (Result Field DocFault) → Result (List FieldText) DocFault
reading [] = Ok []
reading (Ok f ∷ more) = with_front (field_text f ∷ []) (reading more)
reading (Err fault ∷ more) = Err fault

-- nothing is returned after a fault
abbrev pub EndsAtFault : List (Result Field DocFault) → Type 0
EndsAtFault [] = Unit {0}
EndsAtFault (Ok f ∷ more) = EndsAtFault more
EndsAtFault (Err fault ∷ more) = more ≡ []
