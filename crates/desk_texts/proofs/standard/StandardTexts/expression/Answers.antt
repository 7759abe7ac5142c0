use Rattle.std.proofs.lemmas.Result.{IfOk-weaker}
use Rattle.desk_texts.proofs.Verdicts.{tells_expression}
use Rattle.desk_texts.proofs.standard.StandardTexts.expression.Goals as goal

pub returns : goal.returns
returns c = λ w right. IfOk-weaker c.read_expression.result _ _
    (tells_expression w right c.args.profile c.args.text.now) c.read_expression.ensures
