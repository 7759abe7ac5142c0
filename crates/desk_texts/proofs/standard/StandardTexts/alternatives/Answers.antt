use Rattle.std.proofs.lemmas.Result.{IfOk-weaker}
use Rattle.desk_texts.proofs.Verdicts.{tells_alternatives}
use Rattle.desk_texts.proofs.standard.StandardTexts.alternatives.Goals as goal

pub returns : goal.returns
returns c = λ w right profile text is. IfOk-weaker c.alternatives.result _ _
    (tells_alternatives w right profile text c.args.expression.now is) c.alternatives.ensures
