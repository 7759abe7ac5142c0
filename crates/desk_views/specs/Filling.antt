-- How notices are shown whose gaps are filled from files.
use Rattle.std.specs.Prelude.{◌≡◌, ℕ, List, [], Option, Result, Ok, Err, is_some, unwrap_or, if◌then◌else◌}
use Rattle.std.specs.Io.KnownBytes.{Appends}
use Rattle.desk_fill.specs.Showing.{filled_notices}
use Rattle.desk_fill.specs.declared.fill.Fill.{Fill}
use Rattle.desk_fill.specs.declared.showing.Style.{Style}
use Rattle.desk_model.specs.Readings.{Readings}
use Rattle.desk_model.specs.Tables.{Tables}
use Rattle.desk_model.specs.declared.bill.Bill.{Bill}
use Rattle.desk_model.specs.declared.command.Answer.{Answer}
use Rattle.desk_model.specs.declared.command.Answer.TheVariants as answer
use Rattle.desk_model.specs.declared.command.Outcome.{Outcome}
use Rattle.desk_model.specs.declared.command.Outcome.TheVariants.{Answered}
use Rattle.desk_model.specs.declared.command.Query.{Query}
use Rattle.desk_model.specs.declared.command.StoreFault.{StoreFault}
use Rattle.desk_access.specs.Seen.{Seen}
use Rattle.desk_subcommands.specs.Filing.{answer_status, outcome_line}
use Rattle.desk_views.specs.Showing.{Asks}

-- the bill of an outcome, or an outcome that has none
abbrev pub bill_of : Outcome → Result Bill Outcome
bill_of (Answered (answer.Bill bill)) = Ok bill
bill_of outcome = Err outcome

module _ (fills : List Fill) (style : Style) where
  -- the notices of a bill, if they are written
  abbrev pub written_notices : Bill → Option (List ℕ)
  written_notices = filled_notices fills style.is_complete style.is_terminal

  -- the notices with their gaps filled, or nothing if they must be complete and aren't; any other
  -- answer is written as the line of its reply
  abbrev pub filled_text : Answer → List ℕ
  filled_text (answer.Bill bill) = unwrap_or (written_notices bill) []
  filled_text other = outcome_line (Answered other)

  -- the program's status: refused if the notices aren't written
  abbrev pub filled_status : Answer → ℕ
  filled_status (answer.Bill bill) = if is_some (written_notices bill) then 0 else 1
  filled_status other = answer_status other

  module _ (is_right : Readings → Type 0) (tells : StoreFault → Type 0) {Left : Type 0}
      (stands : Left → Tables → Type 0) (query : Query) (before after : Seen Left) where
    -- the desk answers the question, the answer is written so, and the status is the answer's
    abbrev pub IsFilled : Option (List ℕ) → Option (List ℕ) → ℕ → Type 0
    IsFilled old new status =
        (answer : Answer) × Asks is_right tells stands query before after (Answered answer)
        × Appends old new (filled_text answer) × (status ≡ filled_status answer)
