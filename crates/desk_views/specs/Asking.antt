-- What is written of the reply to a request, and the status that is returned.
use Rattle.std.specs.Prelude.{◌≡◌, ◌&&◌, not, Bool, ℕ, List, Option, Some, None, codes, if◌then◌else◌}
use Rattle.std.specs.Io.KnownBytes.{Appends, Keeps}
use Rattle.desk_answers.specs.Answers.{IsShown}
use Rattle.desk_model.specs.declared.command.Answer.TheVariants.{Again}
use Rattle.desk_model.specs.declared.command.Outcome.TheVariants.{Answered, Failed}
use Rattle.desk_script.specs.Texts.{line_of}
use Rattle.desk_script.specs.declared.answer.Reply.{Reply}
use Rattle.desk_script.specs.declared.answer.Reply.TheVariants.{Became, NoRequest}
use Rattle.desk_subcommands.specs.Filing.{answer_status}
use Rattle.desk_views.specs.declared.asking.ReplyForm.{ReplyForm}
use Rattle.desk_views.specs.declared.asking.ReplyForm.TheVariants.{Line, Columns}

-- a reply is written as its line, and the status is 1 where nothing was done, or else 0; a fault is
-- a failure
abbrev pub HasTold : Option (List ℕ) → Option (List ℕ) → Reply → ℕ → Type 0
HasTold old new (Became (Answered answer)) status =
    Appends old new (line_of (Became (Answered answer))) × (status ≡ answer_status answer)
HasTold old new (Became (Failed fault)) status = ⊥
HasTold old new NoRequest status = Appends old new (line_of NoRequest) × (status ≡ 1)

-- a reply is written as a terminal shows it, with the same status
abbrev pub HasShown : Option (List ℕ) → Option (List ℕ) → Reply → ℕ → Type 0
HasShown old new (Became (Answered answer)) status =
    (text : List ℕ) × IsShown answer text × Appends old new text × (status ≡ answer_status answer)
HasShown old new (Became (Failed fault)) status = ⊥
HasShown old new NoRequest status = Appends old new (codes "no request\n") × (status ≡ 1)

-- the number of the document of an import, if it was imported before
abbrev pub number_held : Reply → Option ℕ
number_held (Became (Answered (Again number))) = Some number
number_held _ = None

-- columns are for a terminal on which no line is asked for
abbrev pub form_on : Bool → Bool → ReplyForm
form_on is_terminal is_line_wanted = if is_terminal && not is_line_wanted then Columns else Line

-- a reply is written in a form
abbrev pub HasReplied : ReplyForm → Option (List ℕ) → Option (List ℕ) → Reply → ℕ → Type 0
HasReplied Line old new reply status = HasTold old new reply status
HasReplied Columns old new reply status = HasShown old new reply status

-- what is written of a fault: the line of the reply, and on a terminal nothing
abbrev pub TellsFault : ReplyForm → Option (List ℕ) → Option (List ℕ) → Reply → Type 0
TellsFault Line old new reply = Appends old new (line_of reply)
TellsFault Columns old new reply = Keeps old new
