-- How bytes are cut into lines: at each LF; a CR before it is part of the line's end.
use Rattle.std.specs.Prelude.{◌≡◌, ◌≢◌, ℕ, ◌+◌, ◌-◌, ◌<◌, List, [], ◌∷◌, ◌++◌, length, slice_index, All, map}
use Rattle.desk_base.specs.declared.lines.LineEnd.{LineEnd}
use Rattle.desk_base.specs.declared.lines.LineEnd.TheVariants.{Lf, CrLf, Nothing}
use Rattle.desk_base.specs.declared.lines.Line.{Line}

-- the bytes of a line's end: LF, CR LF, or none if the text ends without one
abbrev pub end_bytes : LineEnd → List ℕ
end_bytes Lf = 10 ∷ []
end_bytes CrLf = 13 ∷ 10 ∷ []
end_bytes Nothing = []

-- a text that an LF ends doesn't end with CR itself, and only a last text that isn't empty has no
-- end
abbrev pub Ends : List ℕ → LineEnd → List ℕ → Type 0
Ends text Lf rest = slice_index text (length text - 1) ≢ 13
Ends text CrLf rest = Unit {0}
Ends text Nothing rest = (rest ≡ []) × (0 < length text)

-- the first line of some bytes, its end, and what follows it
pub record IsLine (bytes text : List ℕ) (end : LineEnd) (rest : List ℕ) : Type 0 where
  pub cut : bytes ≡ text ++ (end_bytes end ++ rest)
  pub no_lf : All (λ b. b ≢ 10) text
  pub ends : Ends text end rest

-- a line, apart from where it is in memory
pub record LineText : Type 0 where
  pub number : ℕ
  pub text : List ℕ
  pub end : LineEnd

-- the text that a line borrows, with its number and its end
abbrev pub line_text : Line → LineText
line_text l = record { number = l.number; text = l.text.now; end = l.end }

-- the bytes are these lines, each the first line of what the lines before it leave, numbered from
-- this number
abbrev pub CutsInto : ℕ → List ℕ → List LineText → Type 0
CutsInto number bytes [] = bytes ≡ []
CutsInto number bytes (l ∷ ls) =
    (rest : List ℕ) × (l.number ≡ number) × IsLine bytes l.text l.end rest
    × CutsInto (number + 1) rest ls

-- the bytes are these borrowed lines, numbered from this number
abbrev pub AreLines : ℕ → List ℕ → List Line → Type 0
AreLines number bytes lines = CutsInto number bytes (map line_text lines)
