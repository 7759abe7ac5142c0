use Rattle.std.proofs.Common.{◌≡◌, ◌⊎◌, rules}
use Rattle.std.proofs.lemmas.Result.{IfOk-weaker, IfErr-weaker}
use Rattle.serde_json.specs.View.{view}
use Rattle.desk_import.specs.Results.{IsUnread}
use Rattle.desk_import.specs.declared.faults.ConvertFault.TheVariants as faults
use Rattle.desk_import.proofs.IntakeLemmas.{takes_json}
use Rattle.desk_import.proofs.ResultLemmas.{unread}
use Rattle.desk_import.proofs.intake.json_intake.Goals as goal

pub returns-clause-takes : goal.returns-clause-takes
returns-clause-takes c = λ none.
    IfOk-weaker c.value_intake-taken.result _ _
    (λ taken h. takes_json c.args.files c.args.bytes.now (view c.in_ok-value.value) taken.bytes.items taken.origin
    none c.in_ok-value.ensures.ok h)
    c.value_intake-taken.ensures.takes

pub returns-in_err-value-clause-err : goal.returns-in_err-value-clause-err
returns-in_err-value-clause-err c = IfErr-weaker c.from_residual.result
    (λ e. (e ≡ faults.Memory) ⊎ IsUnread c.args.bytes.now e) _
    (λ e. unread c.args.files c.args.bytes.now e) (search rules)
