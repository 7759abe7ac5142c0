-- A text has a reading.
use Rattle.std.proofs.Common.{ℕ, zero, suc, ◌≤◌, List, [], ◌∷◌, length, arith}
use Rattle.std.specs.Prelude.{Result, Ok, Err}
use Rattle.desk_fields.specs.declared.fault.DocFault.{DocFault}
use Rattle.desk_fields.specs.Cutting.{Reads, done, more, fails, FieldText, with_piece, line_after}
use Rattle.desk_findings.proofs.FirstPiece.{piece, fault, step}

abbrev pub Reading : ℕ → List ℕ → Type 0
Reading line t = (r : Result (List FieldText) DocFault) × Reads line t r

-- the text is no longer than a bound, and each piece makes it shorter
read_within : (bound line : ℕ) (t : List ℕ) → length t ≤ bound → Reading line t
read_within bound line [] within = (Ok [], done line)
read_within zero line (b ∷ t) within = absurd (omega arith)
read_within (suc bound) line (b ∷ t) within =
    elim (step line (b ∷ t) (omega arith)) [
      | piece p end rest begins shorter ↦
          let later : Reading (line_after line p) rest =
          read_within bound (line_after line p) rest (omega arith) in
          (with_piece line p later.0, more line (b ∷ t) p end rest later.0 begins later.1)
      | fault f h ↦ (Err f, fails line (b ∷ t) f h)
    ]

pub each_text : (line : ℕ) (t : List ℕ) → Reading line t
each_text line t = read_within (length t) line t (omega arith)
