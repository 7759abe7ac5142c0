use Rattle.std.proofs.Common.{◌∙◌, ap₂}
use Rattle.std.proofs.lemmas.Result.{IfOk-weaker}
use Rattle.desk_answers.specs.Refusals.{refused_text}
use Rattle.desk_answers.proofs.refusals.refusal_text.Goals as goal

pub returns : goal.returns
returns c = IfOk-weaker c.named_text.result _ _
    (λ text is. (
      c.as_str.result.now,
      is ∙ ap₂ (λ name fault. refused_text c.args.tables.now name fault
          c.as_str.result.now) c.name.ensures c.fault_of.ensures,
    ))
    c.named_text.ensures
