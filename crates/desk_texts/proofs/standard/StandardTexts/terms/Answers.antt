use Rattle.std.proofs.lemmas.Result.{IfOk-weaker}
use Rattle.desk_texts.proofs.Verdicts.{tells_terms}
use Rattle.desk_texts.proofs.standard.StandardTexts.terms.Goals as goal

pub returns : goal.returns
returns c = λ w right profile text is. IfOk-weaker c.terms.result _ _
    (tells_terms w right profile text c.args.expression.now is) c.terms.ensures
