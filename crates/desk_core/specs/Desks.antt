-- What a desk does, for each recorded history whose tables are its rows.
use Rattle.std.specs.Prelude.{◌≡◌, ◌⊎◌, Bool, true, false, List, [], ◌∷◌, MatchBool, Result}
use Rattle.desk_model.specs.Readings.{Readings}
use Rattle.desk_model.specs.Tables.{Tables, tables}
use Rattle.desk_model.specs.Answers.{answer, is_recorded, refused_alone, IsHistory}
use Rattle.desk_model.specs.Faults.{MayBecome}
use Rattle.desk_model.specs.declared.command.Answer.{Answer}
use Rattle.desk_model.specs.declared.command.Command.{Command}
use Rattle.desk_model.specs.declared.command.Fault.{Fault}
use Rattle.desk_model.specs.declared.command.Outcome.{Outcome}
use Rattle.desk_model.specs.declared.command.Outcome.TheVariants.{Answered, Failed}
use Rattle.desk_access.specs.Seen.{Seen, Decides}

-- no outcome is a fault of the store if the refusal is decided from the command alone
abbrev pub AllSpareStore : Readings → List Command → List Outcome → Type 0
AllSpareStore w cs [] = Unit {0}
AllSpareStore w [] (o ∷ os) = ⊥
AllSpareStore w (c ∷ cs) (o ∷ os) = MayBecome (λ fault. refused_alone w c ≡ false) o
    × AllSpareStore w cs os

-- a command was answered, be it with a refusal; a fault is no answer
abbrev pub is_answered : Outcome → Bool
is_answered (Answered a) = true
is_answered (Failed fault) = false

module _ {Left : Type 0} where
  -- A command is answered as the history says and, if it is recorded, the rows become the tables of
  -- the history with it.
  abbrev pub CarriesOut : (Left → Tables → Type 0) → Readings → Command → Seen Left → Seen Left
      → Result Answer Fault → Type 0
  CarriesOut stands w c = Decides stands (IsHistory w) (tables w) (λ h. tables w (c ∷ h))
      (λ h. answer w h c)

  -- true for each right reading of texts and each recorded history whose tables were the rows, if
  -- the disk has been honest
  abbrev pub InHistory : (Readings → Type 0) → (Readings → List Command → Type 0) → Seen Left
      → Seen Left → Type 0
  InHistory is_right Is old new = (w : Readings) → is_right w → new.is_honest → (h : List Command)
      → IsHistory w h → old.holds (tables w h) → Is w h

  module _ (stands : Left → Tables → Type 0) where
    -- the desk shows its rows, and a stop leaves these and no others
    pub record Secures (t : Tables) (s : Seen Left) : Type 0 where
      pub is_open : s.is_open
      pub leaves : (x : Left) → s.leaves x → stands x t

    -- What a stop may leave after a command. If it was recorded: the tables of the history with it,
    -- and no others. If it failed: those, if it was to be recorded, or what could be left before.
    -- Otherwise: only what could be left before.
    abbrev pub IsLeft : Readings → List Command → Seen Left → Command → Outcome → Left → Type 0
    IsLeft w h old c (Answered a) x = MatchBool (is_recorded a) (stands x (tables w (c ∷ h)))
        (old.is_open → old.leaves x)
    IsLeft w h old c (Failed fault) x = old.is_open
        → old.leaves x ⊎ ((is_recorded (answer w h c) ≡ true) × stands x (tables w (c ∷ h)))
