use Rattle.std.proofs.Common.{◌∙◌, ap, rules}
use Rattle.std.proofs.lemmas.Result.{IfErr-weaker}
use Rattle.desk_report.specs.Terminal.{text_on}
use Rattle.desk_subcommands.specs.Failures.{IsOfOutput}
use Rattle.desk_subcommands.proofs.OutputLemmas.{no_bad_value, of_document}
use Rattle.desk_subcommands.proofs.gathering.gather.Goals as goal

pub returns-in_err-write_on-clause-bad_value : goal.returns-in_err-write_on-clause-bad_value
returns-in_err-write_on-clause-bad_value g c = λ r right. IfErr-weaker
    c.from_residual-in_err-write_on.result IsOfOutput _ (no_bad_value _) (search rules)

pub returns-in_err-write_on-clause-fails : goal.returns-in_err-write_on-clause-fails
returns-in_err-write_on-clause-fails g c = IfErr-weaker
    c.from_residual-in_err-write_on.result IsOfOutput _ of_document (search rules)

pub returns-clause-told : goal.returns-clause-told
returns-clause-told g c = λ r right. (
  text_on c.args.is_terminal c.as_str.result.now,
  (
    c.in_ok-answer.answer,
    c.in_ok-answer.ensures.ok r right,
    ap (text_on c.args.is_terminal) (c.as_str.ensures.value ∙ c.in_ok-text.ensures),
    c.status_of-status.ensures,
  ),
  c.in_ok-write_on.ensures.ok,
)
