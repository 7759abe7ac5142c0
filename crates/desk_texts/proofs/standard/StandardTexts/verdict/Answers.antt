use Rattle.std.proofs.lemmas.Result.{IfOk-weaker}
use Rattle.desk_texts.proofs.Verdicts.{tells_verdict}
use Rattle.desk_texts.proofs.standard.StandardTexts.verdict.Goals as goal

pub returns : goal.returns
returns c = λ w right profile text is. IfOk-weaker c.verdict.result _ _
    (tells_verdict w right profile text c.args.expression.now is c.args.terms.now) c.verdict.ensures
