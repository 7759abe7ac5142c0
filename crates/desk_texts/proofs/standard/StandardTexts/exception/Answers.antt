use Rattle.std.proofs.Common.{◌∙◌, sym}
use Rattle.std.proofs.lemmas.Result.{IfOk-weaker}
use Rattle.desk_texts.proofs.standard.StandardTexts.exception.Goals as goal

pub returns : goal.returns
returns c =
    λ w right. IfOk-weaker c.exception_of.result _ _
    (λ exception is. is ∙ sym (right.exception c.args.term.now)) c.exception_of.ensures
