-- Runs of commands.
use Rattle.std.specs.Prelude.{◌≡◌, Bool, false, List, [], ◌∷◌, if◌then◌else◌}
use Rattle.desk_model.specs.Readings.{Readings}
use Rattle.desk_model.specs.Answers.{answer, is_recorded}
use Rattle.desk_model.specs.declared.command.Command.{Command}
use Rattle.desk_model.specs.declared.command.Outcome.{Outcome}
use Rattle.desk_model.specs.declared.command.Outcome.TheVariants.{Answered, Failed}

-- whether a command with this outcome was recorded
abbrev pub is_kept : Outcome → Bool
is_kept (Answered a) = is_recorded a
is_kept (Failed fault) = false

-- the history after one command with this outcome
abbrev pub history_with : List Command → Command → Outcome → List Command
history_with h c o = if is_kept o then c ∷ h else h

-- the history after commands with these outcomes: those that were recorded come before it, the last
-- one first
abbrev pub history_after : List Command → List Command → List Outcome → List Command
history_after h cs [] = h
history_after h [] (o ∷ os) = h
history_after h (c ∷ cs) (o ∷ os) = history_after (history_with h c o) cs os

-- an outcome that is no fault is the answer
abbrev pub IsAnswer : Readings → List Command → Command → Outcome → Type 0
IsAnswer w h c (Answered a) = a ≡ answer w h c
IsAnswer w h c (Failed fault) = Unit {0}

-- each outcome that is no fault is the answer at its place
abbrev pub AreAnswers : Readings → List Command → List Command → List Outcome → Type 0
AreAnswers w h cs [] = Unit {0}
AreAnswers w h [] (o ∷ os) = ⊥
AreAnswers w h (c ∷ cs) (o ∷ os) = IsAnswer w h c o × AreAnswers w (history_with h c o) cs os
