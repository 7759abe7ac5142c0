use Rattle.std.proofs.Common.{◌∙◌, ap, subst}
use Rattle.std.specs.List.{flat_map}
use Rattle.std.specs.Io.KnownBytes.{Appends}
use Rattle.std.proofs.lemmas.List.Folds.{flat_map-map}
use Rattle.desk_model.specs.declared.command.Answer.TheVariants.{Refused}
use Rattle.desk_model.specs.declared.command.Outcome.TheVariants.{Answered}
use Rattle.desk_model.specs.declared.refusal.Refusal.{Refusal}
use Rattle.desk_subcommands.specs.Filing.{outcome_line}
use Rattle.desk_views.specs.Wanting.{wanting_status}
use Rattle.desk_views.proofs.wanting.tell_wanting.Goals as goal

pub returns-clause-told : goal.returns-clause-told
returns-clause-told g c =
    let text = c.as_slice-3.ensures.value
    ∙ (c.in_ok-text.ensures ∙ (ap (flat_map outcome_line)
    (c.as_slice-2.ensures.value ∙ c.in_ok-outcomes.ensures)
    ∙ flat_map-map outcome_line (λ (refusal : Refusal). Answered (Refused refusal))
    c.args.refusals.items)) in (
      c.status_of-status.ensures ∙ ap wanting_status c.as_slice.ensures.value,
      subst (Appends (g.W.Write.contents c.args.writer.now)
          (g.W.Write.contents c.write_text.new.writer)) text c.in_ok-write_text.ensures.ok,
    )
