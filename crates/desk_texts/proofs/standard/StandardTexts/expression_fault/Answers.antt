use Rattle.std.proofs.Common.{sym}
use Rattle.std.proofs.lemmas.Result.{IfOk-weaker}
use Rattle.desk_texts.proofs.standard.StandardTexts.expression_fault.Goals as goal

pub returns : goal.returns
returns c =
    λ w right. IfOk-weaker c.expression_fault.result _ _
    (λ fault is. sym (right.fault c.args.profile c.args.text.now fault is))
    c.expression_fault.ensures
