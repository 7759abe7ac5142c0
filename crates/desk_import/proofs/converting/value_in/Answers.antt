use Rattle.std.proofs.lemmas.Result.{IfOk-weaker, IfErr-weaker}
use Rattle.desk_import.proofs.ResultLemmas.{refused_json}
use Rattle.desk_import.proofs.converting.value_in.Goals as goal

pub returns-clause-ok : goal.returns-clause-ok
returns-clause-ok c =
    IfOk-weaker c.value_of.result _ _ (λ value is. (c.if-bytes-gt-INPUT_BYTES.false, is))
    c.value_of.ensures.ok

pub returns-clause-err : goal.returns-clause-err
returns-clause-err c =
    IfErr-weaker c.value_of.result _ _
    (λ fault stopped. refused_json c.args.bytes.now fault c.if-bytes-gt-INPUT_BYTES.false stopped)
    c.value_of.ensures.err
