-- The moves of a duty by a filter of the commands, each considered together with those that were
-- recorded before it.
use Rattle.std.specs.Prelude.{◌≡◌, ℕ, List, [], ◌∷◌, ◌++◌, reverse, Option, Some}
use Rattle.std.specs.List.{filter_map}
use Rattle.std.specs.Option.{option_map_or}
use Rattle.desk_model.specs.Readings.{Readings}
use Rattle.desk_model.specs.Moves.{move_by, moves, change_row}
use Rattle.desk_model.specs.States.{state_after}
use Rattle.desk_model.specs.declared.row.ChangeRow.{ChangeRow}
use Rattle.desk_model.specs.declared.row.Move.{Move}
use Rattle.desk_model.specs.declared.state.DutyState.{DutyState}
use Rattle.desk_model.specs.declared.state.DutyState.TheVariants.{IsOpen}
use Rattle.desk_model.specs.declared.command.Command.{Command}

-- each item with those after it: in a history, each command with those recorded before it
abbrev pub with_rest : {A : Type 0} → List A → List (A × List A)
with_rest [] = []
with_rest (x ∷ xs) = (x, xs) ∷ with_rest xs

-- how a command moves a duty, after the commands recorded before it and the moves that these made
abbrev pub moved : Readings → ℕ → Command × List Command → Option Move
moved w q at = move_by w q at.0 at.1 (moves w at.1 q)

-- the moves that commands made, in the order in which they were recorded
abbrev pub moves_given : Readings → List Command → ℕ → List Move
moves_given w h q = filter_map (moved w q) (reverse (with_rest h))

-- the row of a move with its step
abbrev pub step_row : ℕ → ℕ × Move → ChangeRow
step_row q step = change_row q step.0 step.1

-- the state of a duty whose last move is this one: open if there is none
abbrev pub left_by : Option Move → DutyState
left_by last = option_map_or (λ m. state_after m.word) last IsOpen

-- a move of a duty: a command in the history moves it in this way after the commands before it
pub record IsMove (w : Readings) (h : List Command) (q : ℕ) (m : Move) : Type 0 where
  pub later : List Command
  pub command : Command
  pub before : List Command
  pub split : h ≡ later ++ command ∷ before
  pub moves : move_by w q command before (moves w before q) ≡ Some m
