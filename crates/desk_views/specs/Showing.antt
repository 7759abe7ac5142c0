-- How an answer of a desk is shown: as its text, or as the line of its reply.
use Rattle.std.specs.Prelude.{◌≡◌, ℕ, Bool, List, Option, Some, None, unwrap_or, if◌then◌else◌}
use Rattle.std.specs.Io.KnownBytes.{Appends}
use Rattle.desk_model.specs.Readings.{Readings}
use Rattle.desk_model.specs.Tables.{Tables}
use Rattle.desk_model.specs.declared.command.Answer.{Answer}
use Rattle.desk_model.specs.declared.command.Answer.TheVariants.{Bill, Changes, Duties, Gaps, Totals}
use Rattle.desk_model.specs.declared.command.Fault.{Fault}
use Rattle.desk_model.specs.declared.command.Outcome.{Outcome}
use Rattle.desk_model.specs.declared.command.Outcome.TheVariants.{Answered, Failed}
use Rattle.desk_model.specs.declared.command.Query.{Query}
use Rattle.desk_model.specs.declared.command.StoreFault.{StoreFault}
use Rattle.desk_access.specs.Seen.{Seen}
use Rattle.desk_answers.specs.Gaps.{gaps_text}
use Rattle.desk_json.specs.declared.request.Request.TheVariants.{Ask}
use Rattle.desk_report.specs.Columns.{columns_text}
use Rattle.desk_report.specs.CsvTable.{table_text}
use Rattle.desk_report.specs.Lines.{changes_on, totals_line}
use Rattle.desk_report.specs.Notices.{notices_text}
use Rattle.desk_report.specs.Terminal.{text_on}
use Rattle.desk_script.specs.Replies.{Replies}
use Rattle.desk_script.specs.declared.answer.Reply.TheVariants.{Became}
use Rattle.desk_subcommands.specs.Filing.{answer_status, outcome_line}

-- the text of an answer, if it has one; on a terminal notices and changes are as it shows them, and
-- duties and gaps, else comma-separated values, are in columns
abbrev pub answer_text : Bool → Answer → Option (List ℕ)
answer_text is_terminal (Bill bill) = Some (text_on is_terminal (notices_text bill))
answer_text is_terminal (Duties lines) = Some (if is_terminal then columns_text lines
    else table_text lines)
answer_text is_terminal (Totals totals) = Some (totals_line totals)
answer_text is_terminal (Changes rows) = Some (changes_on is_terminal rows)
answer_text is_terminal (Gaps gaps) = Some (gaps_text is_terminal gaps)
answer_text is_terminal _ = None

-- the text of an outcome: an answer may have one, a fault never has
abbrev pub outcome_text : Bool → Outcome → Option (List ℕ)
outcome_text is_terminal (Answered answer) = answer_text is_terminal answer
outcome_text is_terminal (Failed fault) = None

-- an answer is written as its text or, if it has none, as the line of its reply
abbrev pub shown : Bool → Answer → List ℕ
shown is_terminal answer = unwrap_or (answer_text is_terminal answer) (outcome_line (Answered answer))

module _ (is_right : Readings → Type 0) (tells : StoreFault → Type 0) {Left : Type 0}
    (stands : Left → Tables → Type 0) (query : Query) (before after : Seen Left) where
  -- the question comes to this outcome on a desk, as a script's request does
  abbrev pub Asks : Outcome → Type 0
  Asks outcome = Replies is_right tells stands before (Ask query) (Became outcome) after

  -- the desk answers the question, the answer is written, and the status is the answer's
  abbrev pub IsShown : Bool → Option (List ℕ) → Option (List ℕ) → ℕ → Type 0
  IsShown is_terminal old new status =
      (answer : Answer) × Asks (Answered answer) × Appends old new (shown is_terminal answer)
      × (status ≡ answer_status answer)

  -- the desk fails by a fault, and the reply says so
  abbrev pub HasFailed : Option (List ℕ) → Option (List ℕ) → Fault → Type 0
  HasFailed old new fault = Asks (Failed fault) × Appends old new (outcome_line (Failed fault))

  -- the question came to some outcome that couldn't be written
  abbrev pub IsUntold : Type 0
  IsUntold = (outcome : Outcome) × Asks outcome
