use Rattle.std.proofs.Common.{◌≡◌, ◌⊎◌, rules}
use Rattle.std.proofs.lemmas.Result.{IfOk-weaker, IfErr-weaker}
use Rattle.std.specs.String.{string_bytes}
use Rattle.serde_json.specs.View.{view}
use Rattle.desk_import.specs.Results.{IsUnread, steps_of}
use Rattle.desk_import.specs.declared.faults.ConvertFault.TheVariants as faults
use Rattle.desk_import.proofs.ResultLemmas.{refused, fields_again, unread}
use Rattle.desk_import.proofs.converting.convert.Goals as goal

pub returns-clause-ok : goal.returns-clause-ok
returns-clause-ok c =
    let json = c.in_ok-value.ensures.ok in
    IfOk-weaker c.conversion_of-converted.result _ _
    (λ made of. (json.0, view c.in_ok-value.value, json.1, of))
    c.conversion_of-converted.ensures.ok

pub returns-clause-fields : goal.returns-clause-fields
returns-clause-fields c =
    let d = view c.in_ok-value.value in
    IfOk-weaker c.conversion_of-converted.result _ _
    (λ made of. (
      d,
      c.in_ok-value.ensures.ok.1,
      fields_again (steps_of c.args.files d) (string_bytes made.text) of.text of.pass,
    ))
    c.conversion_of-converted.ensures.ok

pub returns-clause-err : goal.returns-clause-err
returns-clause-err c =
    let json = c.in_ok-value.ensures.ok in
    IfErr-weaker c.conversion_of-converted.result _ _
    (λ fault stopped. refused c.args.files c.args.bytes.now (view c.in_ok-value.value) fault json.0 json.1 stopped)
    c.conversion_of-converted.ensures.err

pub returns-in_err-value-clause-err : goal.returns-in_err-value-clause-err
returns-in_err-value-clause-err c = IfErr-weaker c.from_residual.result
    (λ e. (e ≡ faults.Memory) ⊎ IsUnread c.args.bytes.now e) _
    (λ e. unread c.args.files c.args.bytes.now e) (search rules)
