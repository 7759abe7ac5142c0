-- The text on the lines of a file outside ignored stretches (REUSE Specification 3.3, comment
-- headers). An ignored stretch goes from REUSE-IgnoreStart to the end of the next REUSE-IgnoreEnd,
-- or to the end of the file. The definition covers the whole file: each byte is in one run, in one
-- ignored stretch, or in the end of a line.
use Rattle.std.specs.Prelude.{◌≡◌, ◌≢◌, ℕ, ◌+◌, ◌<◌, ◌==◌, List, [], ◌∷◌, ◌++◌, length, All, count_by, codes}
use Rattle.desk_base.specs.declared.lines.LineEnd.{LineEnd}
use Rattle.desk_base.specs.Lines.{end_bytes, Ends}
use Rattle.desk_tree_annotations.specs.declared.runs.Run.{Run}

-- what begins an ignored stretch, anywhere on a line
abbrev pub start : List ℕ
start = codes "REUSE-IgnoreStart"

-- what ends it; the stretch includes it
abbrev pub stop : List ℕ
stop = codes "REUSE-IgnoreEnd"

-- a needle is nowhere in a text
abbrev pub Lacks : List ℕ → List ℕ → Type 0
Lacks needle text = (xs ys : List ℕ) → text ≡ xs ++ (needle ++ ys) → ⊥

-- in this text with the needle after it, the first needle is the one at the end
abbrev pub IsUpTo : List ℕ → List ℕ → Type 0
IsUpTo needle text = (xs ys : List ℕ) → text ++ needle ≡ xs ++ (needle ++ ys) → length ys ≡ 0

-- how a run ends: where its line does; at an ignored stretch; or at one that goes to the end of the
-- file
pub data RunEnd : Type 0 where
  line_end : (end : LineEnd) → RunEnd
  ignored : (inner : List ℕ) → RunEnd
  ignored_rest : (inner : List ℕ) → RunEnd

-- the bytes between a run and what follows it
abbrev pub between : RunEnd → List ℕ
between (line_end end) = end_bytes end
between (ignored inner) = start ++ (inner ++ stop)
between (ignored_rest inner) = start ++ inner

-- a run ends where its line does, or at the first start; and what is ignored ends at the first stop
-- after that
abbrev pub EndsRun : List ℕ → RunEnd → List ℕ → Type 0
EndsRun text (line_end end) rest = Lacks start text × Ends text end rest
EndsRun text (ignored inner) rest = IsUpTo start text × IsUpTo stop inner
EndsRun text (ignored_rest inner) rest = IsUpTo start text × Lacks stop inner × (rest ≡ [])

-- how many lines end between a run and what follows it
abbrev pub lines_between : RunEnd → ℕ
lines_between (line_end end) = 1
lines_between (ignored inner) = count_by (λ b. b == 10) inner
lines_between (ignored_rest inner) = 0

-- the first run of some bytes that begin on a line, and the line and the bytes after it
pub record IsRun (line : ℕ) (bytes text : List ℕ) (after : ℕ) (rest : List ℕ) : Type 0 where
  pub end : RunEnd
  pub cut : bytes ≡ text ++ (between end ++ rest)
  pub no_lf : All (λ b. b ≢ 10) text
  pub ends : EndsRun text end rest
  pub next : after ≡ line + lines_between end

-- a run, apart from where it is in memory
pub record RunText : Type 0 where
  pub line : ℕ
  pub text : List ℕ

-- the run that the code keeps, with the bytes that it borrows
abbrev pub run_text : Run → RunText
run_text r = record { line = r.line; text = r.text.now }

-- bytes that begin on a line show these runs, each the first of what the ones before it leave
abbrev pub Shows : ℕ → List ℕ → List RunText → Type 0
Shows line bytes [] = bytes ≡ []
Shows line bytes (r ∷ rs) =
    (after : ℕ) × (rest : List ℕ) × (0 < length bytes) × (r.line ≡ line)
    × IsRun line bytes r.text after rest × Shows after rest rs
