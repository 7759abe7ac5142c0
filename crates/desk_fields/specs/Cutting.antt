-- A text as a list of pieces, each with its end, the fields that they give, and the fault at the
-- first place where no piece begins (SPDX 2.3, clause 4.4). The definition is about a whole
-- cutting: each byte is in one piece or one end.
use Rattle.std.specs.Prelude.{◌≡◌, ◌≢◌, ℕ, ◌+◌, ◌==◌, false, List, [], ◌∷◌, ◌++◌, length, All}
use Rattle.std.specs.Prelude.{count_by, Option, Some, None, Result, Ok, Err, codes, take, drop}
use Rattle.std.specs.Prelude.{if◌then◌else◌}
use Rattle.std.specs.Str.{bytes_eq}
use Rattle.desk_base.specs.declared.lines.LineEnd.{LineEnd}
use Rattle.desk_base.specs.Lines.{IsLine, Ends, end_bytes}
use Rattle.desk_fields.specs.Pieces.{Piece, bare, one_line, text, bytes_of, given, IsPiece}
use Rattle.desk_fields.specs.Pieces.{IsTagged, IsFirstEnd, AllBlank, is_bare, opened}
use Rattle.desk_fields.specs.Text.{trimmed}
use Rattle.desk_fields.specs.declared.fault.DocFault.{DocFault}
use Rattle.desk_fields.specs.declared.fault.DocFault.TheVariants.{NoColon, OpenText, AfterText}

-- a field, apart from where it is in memory
pub record FieldText : Type 0 where
  pub line : ℕ
  pub tag : List ℕ
  pub value : List ℕ

-- a piece at the front of a text, its end, and what follows it
pub record Begins (whole : List ℕ) (p : Piece) (end : LineEnd) (rest : List ℕ) : Type 0 where
  pub cut : whole ≡ bytes_of p ++ (end_bytes end ++ rest)
  pub ends : Ends (bytes_of p) end rest
  pub piece : IsPiece p

-- how many lines end within a piece
abbrev pub feeds_in : Piece → ℕ
feeds_in (bare line) = 0
feeds_in (one_line before after) = 0
feeds_in (text before gap value tail) = count_by (λ b. b == 10) value

-- the line after a piece that begins on a line
abbrev pub line_after : ℕ → Piece → ℕ
line_after line p = line + feeds_in p + 1

-- the text from a line on begins with no piece: no tag and colon; no </text>; or more than blanks
-- after it
abbrev pub Fails : ℕ → List ℕ → DocFault → Type 0
Fails line whole (NoColon n) =
    (body : List ℕ) × (end : LineEnd) × (rest : List ℕ) × (n ≡ line) × IsLine whole body end rest
    × (is_bare body ≡ false)
    × ((before after : List ℕ) → All (λ b. b ≢ 58) before → body ≡ before ++ (58 ∷ after)
    → length (trimmed before) ≡ 0)
Fails line whole (OpenText n) =
    (before : List ℕ) × (gap : List ℕ) × (inner : List ℕ) × (n ≡ line)
    × (whole ≡ opened before gap inner) × IsTagged before × AllBlank gap
    × ((xs ys : List ℕ) → inner ≢ xs ++ (codes "</text>" ++ ys))
Fails line whole (AfterText n) =
    (before : List ℕ) × (gap : List ℕ) × (value : List ℕ) × (more : List ℕ) × (tail : List ℕ)
    × (end : LineEnd) × (rest : List ℕ)
    × (whole ≡ opened before gap (value ++ (codes "</text>" ++ more))) × IsTagged before
    × AllBlank gap × IsFirstEnd value
    × IsLine more tail end rest × (AllBlank tail → ⊥) × (n ≡ line + count_by (λ b. b == 10) value)
Fails line whole _ = ⊥

-- a field, if the piece has one
abbrev pub onto : ℕ → Option (List ℕ × List ℕ) → List FieldText → List FieldText
onto line None fs = fs
onto line (Some g) fs = record { line = line; tag = g.0; value = g.1 } ∷ fs

-- what follows a piece, preceded by its field
abbrev pub with_piece : ℕ → Piece → Result (List FieldText) DocFault
    → Result (List FieldText) DocFault
with_piece line p (Ok fs) = Ok (onto line (given p) fs)
with_piece line p (Err f) = Err f

-- the same, preceded by some fields
abbrev pub with_front : List FieldText → Result (List FieldText) DocFault
    → Result (List FieldText) DocFault
with_front fs (Ok gs) = Ok (fs ++ gs)
with_front fs (Err f) = Err f

-- a byte order mark at the start is skipped
abbrev pub behind_mark : List ℕ → List ℕ
behind_mark bytes = if bytes_eq (take 3 bytes) (239 ∷ 187 ∷ 191 ∷ []) then drop 3 bytes else bytes

-- the text from a line on is a list of pieces that give these fields, or some pieces followed by
-- what begins with none
pub data Reads : ℕ → List ℕ → Result (List FieldText) DocFault → Type 0 where
  done : (line : ℕ) → Reads line [] (Ok [])
  more : (line : ℕ) (whole : List ℕ) (p : Piece) (end : LineEnd) (rest : List ℕ)
      (r : Result (List FieldText) DocFault) → Begins whole p end rest
      → Reads (line_after line p) rest r → Reads line whole (with_piece line p r)
  fails : (line : ℕ) (whole : List ℕ) (f : DocFault) → Fails line whole f → Reads line whole (Err f)

-- ---- the same with the pieces themselves

-- a piece with its end
pub record Cut : Type 0 where
  pub piece : Piece
  pub end : LineEnd

-- a text is these pieces, each with its end, and what follows them: each of its bytes is in only
-- one
abbrev pub AreCuts : List ℕ → List Cut → List ℕ → Type 0
AreCuts whole [] rest = whole ≡ rest
AreCuts whole (c ∷ cs) rest = (after : List ℕ) × Begins whole c.piece c.end after
    × AreCuts after cs rest

-- the line after pieces that begin on a line
abbrev pub line_behind : ℕ → List Cut → ℕ
line_behind line [] = line
line_behind line (c ∷ cs) = line_behind (line_after line c.piece) cs

-- the fields that they give
abbrev pub fields_of : ℕ → List Cut → List FieldText
fields_of line [] = []
fields_of line (c ∷ cs) = onto line (given c.piece) (fields_of (line_after line c.piece) cs)

-- the text from a line on is these pieces and nothing else; or these, followed by what begins with
-- none, with its fault
abbrev pub IsCutting : ℕ → List ℕ → List Cut → Option DocFault → Type 0
IsCutting line whole cuts None = AreCuts whole cuts []
IsCutting line whole cuts (Some fault) = (rest : List ℕ) × AreCuts whole cuts rest
    × Fails (line_behind line cuts) rest fault

-- what the cutting says: its fields, or its fault
abbrev pub said_by : ℕ → List Cut → Option DocFault → Result (List FieldText) DocFault
said_by line cuts None = Ok (fields_of line cuts)
said_by line cuts (Some fault) = Err fault
