use Rattle.std.proofs.Common.{◌≡◌, map}
use Rattle.desk_model.specs.declared.command.Answer.TheVariants.{Refused}
use Rattle.desk_model.specs.declared.command.Outcome.TheVariants.{Answered}
use Rattle.desk_views.proofs.wanting.outcomes_of.Given as goal

abbrev pub invariant-loop-refusal : goal.invariant-loop-refusal
invariant-loop-refusal l = l.outcomes.items ≡ map (λ refusal. Answered (Refused refusal)) l.yielded
