-- The moves of a duty, its state, and its changes.
use Rattle.std.specs.Prelude.{ℕ, ◌+◌, ◌==◌, ◌&&◌, not, nat_lt, nat_le, Bool, false, List, [], ◌∷◌}
use Rattle.std.specs.Prelude.{◌++◌, length, map, find, Option, Some, None, is_some, if◌then◌else◌}
use Rattle.std.specs.List.{flat_map}
use Rattle.std.specs.Option.{option_map_or}
use Rattle.std.specs.Str.{bytes_eq}
use Rattle.desk_model.specs.Readings.{Readings}
use Rattle.desk_model.specs.Texts.{is_before}
use Rattle.desk_model.specs.States.{is_met, is_waived, state_after}
use Rattle.desk_model.specs.declared.row.Owed.{Owed}
use Rattle.desk_model.specs.Raised.{raised, owed_at, numbered}
use Rattle.desk_model.specs.declared.row.DutyRow.{DutyRow}
use Rattle.desk_model.specs.declared.row.ChangeRow.{ChangeRow}
use Rattle.desk_model.specs.declared.state.DutyState.{DutyState}
use Rattle.desk_model.specs.declared.state.DutyState.TheVariants as stands
use Rattle.desk_model.specs.declared.row.Move.{Move}
use Rattle.desk_model.specs.declared.state.Word.TheVariants as word
use Rattle.desk_model.specs.declared.command.Command.{Command}
use Rattle.desk_model.specs.declared.command.Command.TheVariants.{Freeze, Meet, Waive, Reopen, Withdraw, CloseDay}

-- the state of a duty after its moves, the last one first
abbrev pub place_after : List Move → DutyState
place_after [] = stands.IsOpen
place_after (m ∷ ms) = state_after m.word

-- the last day of the last move, if that is a waiver that ends
abbrev pub end_after : List Move → Option (List ℕ)
end_after [] = None
end_after (m ∷ ms) = m.last_day

-- a waiver with this last day ends before the day
abbrev pub is_over : List ℕ → Option (List ℕ) → Bool
is_over day until = option_map_or (λ last. is_before last day) until false

-- a duty is waived, and its waiver ends before the day
abbrev pub has_ended : List ℕ → DutyState → Option (List ℕ) → Bool
has_ended day state end = is_waived state && is_over day end

-- a duty by its number
abbrev pub duty_at : Readings → List Command → ℕ → Option (ℕ × Owed)
duty_at w h q = find (λ d. d.0 == q) (numbered w h)

-- a duty with this number was raised for a release
abbrev pub is_raised_for : Readings → List Command → ℕ → List ℕ → Bool
is_raised_for w h q r = option_map_or (λ d. bytes_eq d.1.release r) (duty_at w h q) false

-- a freeze of the release after these commands raises the duty with this number
abbrev pub raises : Readings → List Command → List ℕ → ℕ → Bool
raises w h r q = nat_lt (length (raised w h)) q
    && nat_le q (length (raised w h) + length (owed_at w h r))

-- it has been raised
abbrev pub is_known : Readings → List Command → ℕ → Bool
is_known w h q = nat_le q (length (raised w h))

-- the move, if this is so
abbrev pub move_if : Bool → Move → Option Move
move_if b m = if b then Some m else None

-- How a command moves duty q, after the commands and the moves before it: a freeze raises it; Meet,
-- Waive and Reopen name it; a withdrawal of its release moves it unless it is met, and a CloseDay
-- if its waiver ended before that day.
abbrev pub move_by : Readings → ℕ → Command → List Command → List Move → Option Move
move_by w q (Freeze r day) before ms = move_if (raises w before r q)
    (record { day = day; word = word.Raised; body = []; last_day = None })
move_by w q (Meet q' day text) before ms = move_if ((q' == q) && is_known w before q)
    (record { day = day; word = word.Met; body = text; last_day = None })
move_by w q (Waive q' day text until) before ms = move_if ((q' == q) && is_known w before q)
    (record { day = day; word = word.Waived; body = text; last_day = until })
move_by w q (Reopen q' day text) before ms = move_if ((q' == q) && is_known w before q)
    (record { day = day; word = word.Reopened; body = text; last_day = None })
move_by w q (Withdraw r day text) before ms =
    move_if (is_raised_for w before q r && not (is_met (place_after ms)))
    (record { day = day; word = word.Withdrawn; body = text; last_day = None })
move_by w q (CloseDay day) before ms = move_if (has_ended day (place_after ms) (end_after ms))
    (record { day = day; word = word.Ended; body = []; last_day = None })
move_by w q _ before ms = None

-- one more move, if there is one, before those that came earlier
abbrev pub with_move : Option Move → List Move → List Move
with_move None ms = ms
with_move (Some m) ms = m ∷ ms

-- the moves of a duty, the last one first
abbrev pub moves : Readings → List Command → ℕ → List Move
moves w [] q = []
moves w (c ∷ h) q = with_move (move_by w q c h (moves w h q)) (moves w h q)

-- the state of a duty after all its moves
abbrev pub place : Readings → List Command → ℕ → DutyState
place w h q = place_after (moves w h q)

-- the row of a move
abbrev pub change_row : ℕ → ℕ → Move → ChangeRow
change_row q step m = record {
  duty = q;
  step = step;
  day = m.day;
  word = m.word;
  body = m.body;
  last_day = m.last_day;
}

-- the rows of moves that are given last one first, in steps from 1
abbrev pub change_rows : ℕ → List Move → List ChangeRow
change_rows q [] = []
change_rows q (m ∷ ms) = change_rows q ms ++ change_row q (length ms + 1) m ∷ []

-- the changes of a duty, in steps from 1
abbrev pub changes : Readings → List Command → ℕ → List ChangeRow
changes w h q = change_rows q (moves w h q)

-- a duty by its number, in a state
abbrev pub duty_row : DutyState → ℕ × Owed → DutyRow
duty_row state d = record {
  number = d.0;
  release = d.1.release;
  document = d.1.document;
  package_id = d.1.package_id;
  term = d.1.term;
  code = d.1.code;
  rule = d.1.rule;
  state = state;
}

-- the duties by number, each with its state
abbrev pub duties : Readings → List Command → List DutyRow
duties w h = map (λ d. duty_row (place w h d.0) d) (numbered w h)

-- the changes of all duties, by duty and step
abbrev pub all_changes : Readings → List Command → List ChangeRow
all_changes w h = flat_map (λ d. changes w h d.0) (numbered w h)

-- a change is a waiver that ends
abbrev pub is_waiver : ChangeRow → Bool
is_waiver row = is_some row.last_day
