-- What is written of the replies if a script stops.
use Rattle.std.specs.Prelude.{◌≡◌, ◌⊎◌, ℕ, List, [], ◌∷◌, ◌++◌, Option, sum_by}
use Rattle.std.specs.Io.KnownBytes.{Appends}
use Rattle.desk_script.specs.Texts.{TakesMemory, count_failed, count_refused, line_of, lines_of}
use Rattle.desk_script.specs.declared.answer.Reply.{Reply}
use Rattle.desk_script.specs.declared.serving.ScriptStop.{ScriptStop}
use Rattle.desk_script.specs.declared.serving.ScriptStop.TheVariants.{Read, Write, Turns, Memory, Refused, Failed}

-- these bytes are a prefix of others
abbrev pub IsFrontOf : List ℕ → List ℕ → Type 0
IsFrontOf front bytes = (rest : List ℕ) × (bytes ≡ front ++ rest)

-- some prefix of the bytes is written
abbrev pub AppendsFront : Option (List ℕ) → Option (List ℕ) → List ℕ → Type 0
AppendsFront old new bytes = (front : List ℕ) × IsFrontOf front bytes × Appends old new front

-- if a script is to stop at the first line that isn't done: the fault is that the line of this
-- reply isn't
abbrev pub IsStopAt : Reply → ScriptStop → Type 0
IsStopAt reply Refused = count_refused reply ≡ 1
IsStopAt reply Failed = count_failed reply ≡ 1
IsStopAt reply _ = ⊥

-- the fact is true if the fault is such a line
abbrev pub IfStop : Type 0 → ScriptStop → Type 0
IfStop fact Refused = fact
IfStop fact Failed = fact
IfStop fact _ = Unit {0}

-- none of the lines of some replies was refused, was no request or failed
abbrev pub AreDone : List Reply → Type 0
AreDone replies = (sum_by count_refused replies ≡ 0) × (sum_by count_failed replies ≡ 0)

-- Why a reply is the last one, and what is written of it: its line couldn't be written, and some
-- prefix of it was; no memory was left for its text, and nothing of it was written; or its line
-- isn't done, and all of it is written.
abbrev pub IsLost : ScriptStop → Reply → List ℕ → Type 0
IsLost Write reply front = IsFrontOf front (line_of reply)
IsLost Memory reply front = TakesMemory reply × (front ≡ [])
IsLost Read reply front = ⊥
IsLost Turns reply front = ⊥
IsLost Refused reply front = IsStopAt reply Refused × (front ≡ line_of reply)
IsLost Failed reply front = IsStopAt reply Failed × (front ≡ line_of reply)

-- a fault before a line is whole: of the reader, or no memory for the line
abbrev pub IsOfLine : ScriptStop → Type 0
IsOfLine Read = Unit {0}
IsOfLine Turns = Unit {0}
IsOfLine Memory = Unit {0}
IsOfLine Write = ⊥
IsOfLine Refused = ⊥
IsOfLine Failed = ⊥

-- one reply is lost, or ends the script
pub record Loses (fault : ScriptStop) (reply : Reply) (old new : Option (List ℕ)) : Type 0 where
  pub front : List ℕ
  pub lost : IsLost fault reply front
  pub written : Appends old new front

-- the last of some replies is lost or ends the script, after the lines of the ones before it; if it
-- ends the script, it is the first whose line isn't done
pub record LosesLast (fault : ScriptStop) (replies : List Reply)
    (old new : Option (List ℕ)) : Type 0 where
  pub told : List Reply
  pub last : Reply
  pub are : replies ≡ told ++ last ∷ []
  pub front : List ℕ
  pub lost : IsLost fault last front
  pub first : IfStop (AreDone told) fault
  pub written : Appends old new (lines_of told ++ front)

-- the replies are written, a line each, except the last one if it is lost
abbrev pub AreToldUntil : ScriptStop → List Reply → Option (List ℕ) → Option (List ℕ) → Type 0
AreToldUntil fault replies old new = (IsOfLine fault × Appends old new (lines_of replies))
    ⊎ LosesLast fault replies old new
