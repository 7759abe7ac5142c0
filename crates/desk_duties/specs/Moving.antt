-- What the steps of a move of a duty have found.
use Rattle.std.specs.Prelude.{◌≡◌, ◌+◌, ℕ, Result, Ok, Err, true, false, List, [], ◌∷◌, ◌&&◌}
use Rattle.std.specs.Prelude.{nat_lt, Option, Some, None, is_some, unwrap_or}
use Rattle.std.specs.Option.{option_map_or, option_and_then}
use Rattle.desk_base.specs.Day.{is_day}
use Rattle.desk_base.specs.Limits as most
use Rattle.desk_model.specs.Tables.{Tables}
use Rattle.desk_model.specs.Answers.{refused_first, unless, refused_by, move_answer, Moving, gone, settled}
use Rattle.desk_model.specs.declared.state.DutyState.{DutyState}
use Rattle.desk_model.specs.declared.row.DutyRow.{DutyRow}
use Rattle.desk_model.specs.declared.row.Move.{Move}
use Rattle.desk_model.specs.declared.state.ReleaseState.{ReleaseState}
use Rattle.desk_model.specs.declared.state.ReleaseState.TheVariants as release
use Rattle.desk_model.specs.declared.state.Word.{Word}
use Rattle.desk_model.specs.declared.refusal.Refusal.{Refusal}
use Rattle.desk_model.specs.declared.refusal.Refusal.TheVariants as why
use Rattle.desk_model.specs.declared.refusal.Limit.TheVariants as limit
use Rattle.desk_model.specs.declared.command.Answer.{Answer}
use Rattle.desk_model.specs.declared.command.Answer.TheVariants as answered
use Rattle.desk_history.specs.FromTables.{duty_found, release_state_found, state_found, steps_found}
use Rattle.desk_duties.specs.declared.duty.Days.{Days}
use Rattle.desk_duties.specs.declared.duty.Read.{Read}
use Rattle.desk_duties.specs.declared.duty.Read.TheVariants as read

-- the days that texts are, if each of them is a day
abbrev pub AreDays : List ℕ → Option (List ℕ) → Option Days → Type 0
AreDays day until None = (is_day day && option_map_or is_day until true) ≡ false
AreDays day until (Some days) = ((is_day day && option_map_or is_day until true) ≡ true)
    × (days.day ≡ day) × (days.last_day ≡ until)

-- the move with these texts
abbrev pub move_as : Word → List ℕ → List ℕ → Option (List ℕ) → Move
move_as word day text until = record { day = day; word = word; body = text; last_day = until }

-- the move with these days and this text, or the refusal for them
abbrev pub IsRead : Word → List ℕ → List ℕ → Option (List ℕ) → Read → Type 0
IsRead word day text until (read.Move m) = (refused_by day text until ≡ false)
    × (m ≡ move_as word day text until)
IsRead word day text until (read.Refused refusal) =
    (found : Moving) → move_answer word day text until found ≡ answered.Refused refusal

-- the answer to a move of a duty that was found
abbrev pub move_here : Word → ReleaseState → ℕ → DutyState → Answer
move_here word state steps place = refused_first
    (gone state ∷ settled word place ∷ unless (nat_lt steps most.changes) (why.Full limit.Changes)
    ∷ []) answered.Done

-- the same, with what the tables say of the duty in this row
abbrev pub move_from : Tables → Word → DutyRow → Answer
move_from t word row = move_here word (unwrap_or (state_found t row.release) release.IsOpen)
    (steps_found t row.number) row.state

-- the step of the duty's next move, or the refusal of it
abbrev pub IsNextStep : Tables → Word → DutyRow → Result ℕ Refusal → Type 0
IsNextStep t word row (Ok step) = (answered.Done ≡ move_from t word row)
    × (step ≡ steps_found t row.number + 1)
IsNextStep t word row (Err refusal) = answered.Refused refusal ≡ move_from t word row

-- the answer to a move of the duty with this number, once its days and text have been read
abbrev pub move_known : Tables → Word → ℕ → Answer
move_known t word q = refused_first (
    unless (is_some (duty_found t q)) why.UnknownDuty
    ∷ gone (release_state_found t (duty_found t q))
    ∷ option_and_then (λ row. settled word row.state) (duty_found t q)
    ∷ unless (nat_lt (steps_found t q) most.changes) (why.Full limit.Changes)
    ∷ []) answered.Done
