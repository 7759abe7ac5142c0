-- The changes of a duty: its moves, each with its step, day, word and text, and the last day of a
-- waiver that ends.
use Rattle.std.specs.Prelude.{◌≡◌, ℕ, ℤ, pos, ◌&&◌, not, int_le, Bool, true, false, List, [], ◌∷◌}
use Rattle.std.specs.Prelude.{map, find, filter, Option}
use Rattle.std.specs.List.{list_all}
use Rattle.std.specs.Option.{option_map, option_map_or}
use Rattle.std.specs.Str.{bytes_eq}
use Rattle.desk_base.specs.Day.{is_day}
use Rattle.desk_model.specs.Names.{duty_state_name, word_name, word_named}
use Rattle.desk_model.specs.States.{state_after}
use Rattle.desk_model.specs.Texts.{is_before, is_note}
use Rattle.desk_model.specs.declared.state.DutyState.{DutyState}
use Rattle.desk_model.specs.declared.state.DutyState.TheVariants as stands
use Rattle.desk_model.specs.declared.state.Word.{Word}
use Rattle.desk_model.specs.declared.state.Word.TheVariants as word
use Rattle.desk_snapshot.specs.Rows.{AreFrom, is_change_at, is_change_of, is_waiver_at}
use Rattle.desk_snapshot.specs.declared.rows.StoredChange.{StoredChange}
use Rattle.desk_snapshot.specs.declared.rows.StoredDuty.{StoredDuty}
use Rattle.desk_snapshot.specs.declared.rows.StoredWaiver.{StoredWaiver}
use Rattle.desk_snapshot.specs.declared.snapshot.Snapshot.{Snapshot}

-- the last day of a duty's change, if that is a waiver that ends
abbrev pub last_day_at : Snapshot → StoredChange → Option (List ℕ)
last_day_at s row = option_map (λ waiver. waiver.last_day)
    (find (is_waiver_at row.duty row.step) s.waiver)

-- Which move is allowed from which state: Meet and Waive from open, Reopen from met or waived, a
-- withdrawal from open or waived, and the end of a waiver from waived, if its last day is before
-- the day of the end. A duty is raised once, and nothing moves it from withdrawn.
abbrev pub may_move : DutyState → Option (List ℕ) → List ℕ → Word → Bool
may_move stands.IsOpen end day word.Met = true
may_move stands.IsOpen end day word.Waived = true
may_move stands.IsOpen end day word.Withdrawn = true
may_move stands.Met end day word.Reopened = true
may_move stands.Waived end day word.Reopened = true
may_move stands.Waived end day word.Withdrawn = true
may_move stands.Waived end day word.Ended = option_map_or (λ last. is_before last day) end false
may_move _ end day _ = false

-- a change follows from the state in which the one before it left the duty
abbrev pub goes_on : Snapshot → StoredChange → StoredChange → Bool
goes_on s before row =
    option_map_or (λ left. option_map_or
    (may_move (state_after left) (last_day_at s before) row.day) (word_named row.word) false)
    (word_named before.word) false

-- each change follows from the one before it
abbrev pub go_on : Snapshot → StoredChange → List StoredChange → Bool
go_on s before [] = true
go_on s before (row ∷ rows) = goes_on s before row && go_on s row rows

-- the last of a list of changes
abbrev pub last_change : StoredChange → List StoredChange → StoredChange
last_change row [] = row
last_change row (next ∷ rows) = last_change next rows

-- The text of a change: empty if a duty was raised or a waiver ended, otherwise 1 to 1,024 bytes
-- without control bytes.
abbrev pub is_body : Word → List ℕ → Bool
is_body word.Raised text = bytes_eq text []
is_body word.Ended text = bytes_eq text []
is_body _ text = is_note text

-- Meet, Waive and Reopen are refused from 999 changes on, so that a withdrawal always has room.
abbrev pub has_room : Word → ℤ → Bool
has_room word.Met step = int_le step (pos 999)
has_room word.Waived step = int_le step (pos 999)
has_room word.Reopened step = int_le step (pos 999)
has_room _ step = true

-- a change as it may be written: a day that exists, a word, its text, and a step within the limit
abbrev pub is_formed : StoredChange → Bool
is_formed row = is_day row.day
    && option_map_or (λ word. is_body word row.body && has_room word row.step) (word_named row.word)
    false

-- the change by which a freeze raised the duty
abbrev pub is_raising : StoredChange → Bool
is_raising row = bytes_eq row.word (word_name word.Raised)

-- the state of a duty is that in which a change left it
abbrev pub leaves : List ℕ → StoredChange → Bool
leaves state row = option_map_or (λ word. bytes_eq (duty_state_name (state_after word)) state)
    (word_named row.word) false

-- The changes of a duty in a state: the first is its raising, each next one follows from the one
-- before it, and the last one left it in that state.
abbrev pub are_moves : Snapshot → List ℕ → List StoredChange → Bool
are_moves s state [] = false
are_moves s state (row ∷ rows) = is_raising row
    && (go_on s row rows && leaves state (last_change row rows))

-- The changes of a duty: their steps are the numbers from 1 to their count.
pub record AreChangesOf (s : Snapshot) (duty : StoredDuty) : Type 0 where
  pub steps : AreFrom 1 (map (λ row. row.step) (filter (is_change_of duty.number) s.changes))
  pub formed : list_all is_formed (filter (is_change_of duty.number) s.changes) ≡ true
  pub moves : are_moves s duty.state (filter (is_change_of duty.number) s.changes) ≡ true

-- a number from 1 to n
abbrev pub is_within : ℕ → ℤ → Bool
is_within n m = int_le (pos 1) m && int_le m (pos n)

-- a waiver belongs to a waived step, with a last day that exists and isn't before the day of the
-- step
abbrev pub is_waiver_of : StoredChange → List ℕ → Bool
is_waiver_of row last_day = bytes_eq row.word (word_name word.Waived)
    && (is_day last_day && not (is_before last_day row.day))

-- the step that the waiver is for is there, and may have this last day
abbrev pub is_waived : Snapshot → StoredWaiver → Bool
is_waived s waiver = option_map_or (λ row. is_waiver_of row waiver.last_day)
    (find (is_change_at waiver.duty waiver.step) s.changes) false
