use Rattle.std.proofs.Common.{◌∙◌, ◌++◌, [], ◌∷◌, ap, sym}
use Rattle.std.proofs.lemmas.List.{map-append}
use Rattle.desk_model.specs.declared.command.Answer.TheVariants.{Refused}
use Rattle.desk_model.specs.declared.command.Outcome.TheVariants.{Answered}
use Rattle.desk_model.specs.declared.refusal.Refusal.{Refusal}
use Rattle.desk_views.proofs.wanting.outcomes_of.Goals as goal

pub loop-refusal-preserved : goal.loop-refusal-preserved
loop-refusal-preserved c =
    let told = λ (refusal : Refusal). Answered (Refused refusal) in
    c.in_ok-push.ensures.items ∙ ap (λ outcomes. outcomes ++ told c.in-Some.refusal ∷ [])
    c.loop-refusal.invariant
    ∙ sym (map-append told c.loop-refusal.yielded (c.in-Some.refusal ∷ []))
