-- What is written and counted.
use Rattle.std.specs.Prelude.{ℕ, List, [], ◌∷◌, ◌++◌, flat_map}
use Rattle.desk_model.specs.declared.command.Answer.TheVariants.{Refused}
use Rattle.desk_model.specs.declared.command.Fault.TheVariants.{Memory}
use Rattle.desk_model.specs.declared.command.Outcome.TheVariants.{Answered, Failed}
use Rattle.desk_json.specs.Replies.{reply_text, bad_command_text}
use Rattle.desk_script.specs.declared.answer.Reply.{Reply}
use Rattle.desk_script.specs.declared.answer.Reply.TheVariants.{Became, NoRequest}

-- the text of a reply
abbrev pub text_of : Reply → List ℕ
text_of (Became outcome) = reply_text outcome
text_of NoRequest = bad_command_text

-- a reply is written as a line of its own
abbrev pub line_of : Reply → List ℕ
line_of reply = text_of reply ++ 10 ∷ []

-- replies one after another, a line each
abbrev pub lines_of : List Reply → List ℕ
lines_of replies = flat_map line_of replies

-- the text of a reply needs memory, unless it says that no memory was left or that there was no
-- request
abbrev pub TakesMemory : Reply → Type 0
TakesMemory (Became (Failed Memory)) = ⊥
TakesMemory (Became _) = Unit {0}
TakesMemory NoRequest = ⊥

-- a line counts as refused if its request is refused, or if it is no request
abbrev pub count_refused : Reply → ℕ
count_refused (Became (Answered (Refused reason))) = 1
count_refused (Became _) = 0
count_refused NoRequest = 1

-- a line counts as failed if its request had a fault
abbrev pub count_failed : Reply → ℕ
count_failed (Became (Failed fault)) = 1
count_failed _ = 0
