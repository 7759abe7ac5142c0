-- What keeps a release from being frozen, written out.
use Rattle.std.specs.Prelude.{ℕ, List, [], ◌∷◌}
use Rattle.std.specs.List.{flat_map}
use Rattle.desk_model.specs.declared.command.Answer.TheVariants.{Refused}
use Rattle.desk_model.specs.declared.command.Outcome.TheVariants.{Answered}
use Rattle.desk_model.specs.declared.refusal.Refusal.{Refusal}
use Rattle.desk_subcommands.specs.Filing.{outcome_line}

-- each refusal, as the reply to a request that is refused by it
abbrev pub refusal_lines : List Refusal → List ℕ
refusal_lines refusals = flat_map (λ refusal. outcome_line (Answered (Refused refusal))) refusals

-- the program's status: done if there are no refusals
abbrev pub wanting_status : List Refusal → ℕ
wanting_status [] = 0
wanting_status (refusal ∷ refusals) = 1
