-- What `import` and `catalogue` write, and the status that they return; and what is written of a
-- file that keeps no desk.
use Rattle.std.specs.Prelude.{◌≡◌, ◌++◌, ℕ, List, [], ◌∷◌, Option, codes}
use Rattle.std.specs.Io.KnownBytes.{Appends}
use Rattle.desk_model.specs.Readings.{Readings}
use Rattle.desk_model.specs.Tables.{Tables}
use Rattle.desk_model.specs.declared.command.Answer.{Answer}
use Rattle.desk_model.specs.declared.command.Answer.TheVariants.{Refused}
use Rattle.desk_model.specs.declared.command.Command.{Command}
use Rattle.desk_model.specs.declared.command.Fault.{Fault}
use Rattle.desk_model.specs.declared.command.Outcome.{Outcome}
use Rattle.desk_model.specs.declared.command.Outcome.TheVariants.{Answered, Failed}
use Rattle.desk_model.specs.declared.command.StoreFault.{StoreFault}
use Rattle.desk_model.specs.declared.refusal.CatalogueFault.TheVariants.{NotToml}
use Rattle.desk_model.specs.declared.refusal.Refusal.TheVariants.{BadCatalogue}
use Rattle.desk_access.specs.Seen.{Seen}
use Rattle.desk_json.specs.declared.request.Request.TheVariants.{Act}
use Rattle.desk_script.specs.Replies.{Replies}
use Rattle.desk_snapshot.specs.Reports.{audit_name}
use Rattle.desk_script.specs.Texts.{line_of}
use Rattle.desk_script.specs.declared.answer.Reply.TheVariants.{Became}
use Rattle.desk_subcommands.specs.declared.filing.NoDesk.{NoDesk}
use Rattle.desk_subcommands.specs.declared.filing.NoDesk.TheVariants.{NotADesk, BadVersion, Unsound}

-- the program's status for the answer to a command: refused, or done
abbrev pub answer_status : Answer → ℕ
answer_status (Refused refusal) = 1
answer_status _ = 0

-- the line of the reply to an outcome, as a script writes it
abbrev pub outcome_line : Outcome → List ℕ
outcome_line outcome = line_of (Became outcome)

-- what a catalogue that is no text comes to: it is not a TOML document
abbrev pub no_text : Outcome
no_text = Answered (Refused (BadCatalogue NotToml))

-- the name of the reason why a file keeps no desk; if the tables aren't sound, that of the first
-- condition that they don't meet
abbrev pub no_desk_name : NoDesk → List ℕ
no_desk_name NotADesk = codes "NotADesk"
no_desk_name BadVersion = codes "BadVersion"
no_desk_name (Unsound fault) = audit_name fault

-- the line that reports it
abbrev pub no_desk_line : NoDesk → List ℕ
no_desk_line reason = (codes "fault: " ++ no_desk_name reason) ++ 10 ∷ []

module _ (is_right : Readings → Type 0) (tells : StoreFault → Type 0) {Left : Type 0}
    (stands : Left → Tables → Type 0) (command : Command) (before after : Seen Left) where
  -- the command comes to this outcome on a desk, and the rows become what they become for a
  -- script's request
  abbrev pub Comes : Outcome → Type 0
  Comes outcome = Replies is_right tells stands before (Act command) (Became outcome) after

  -- the desk answers the command, the reply is written, and the status is the answer's
  abbrev pub IsAnswered : Option (List ℕ) → Option (List ℕ) → ℕ → Type 0
  IsAnswered old new status =
      (answer : Answer) × Comes (Answered answer) × Appends old new (outcome_line (Answered answer))
      × (status ≡ answer_status answer)

  -- the desk fails by a fault, and the reply says so
  abbrev pub HasFailed : Option (List ℕ) → Option (List ℕ) → Fault → Type 0
  HasFailed old new fault = Comes (Failed fault) × Appends old new (outcome_line (Failed fault))

  -- the command came to some outcome, whose reply couldn't be written
  abbrev pub IsUntold : Type 0
  IsUntold = (outcome : Outcome) × Comes outcome
