-- The sole choices of a release, written out.
use Rattle.std.specs.Prelude.{ℕ, List, Result, Ok, Err}
use Rattle.desk_model.specs.declared.command.Answer.TheVariants.{Refused}
use Rattle.desk_model.specs.declared.command.Outcome.TheVariants.{Answered}
use Rattle.desk_model.specs.declared.refusal.Refusal.{Refusal}
use Rattle.desk_subcommands.specs.Filing.{outcome_line}
use Rattle.desk_wanting.specs.Requests.{choice_lines_text}
use Rattle.desk_wanting.specs.declared.sole_choice.SoleChoice.{SoleChoice}

-- the requests that make them, or the reply to a request that is refused
abbrev pub choices_text : List ℕ → Result (List SoleChoice) Refusal → List ℕ
choices_text release (Ok choices) = choice_lines_text release choices
choices_text release (Err why) = outcome_line (Answered (Refused why))

-- the program's status: done, or refused
abbrev pub choices_status : Result (List SoleChoice) Refusal → ℕ
choices_status (Ok choices) = 0
choices_status (Err why) = 1
