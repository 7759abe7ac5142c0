use Rattle.std.proofs.Common.{◌∙◌, sym}
use Rattle.std.proofs.lemmas.Result.{IfOk-weaker}
use Rattle.desk_texts.proofs.standard.StandardTexts.adopted_as.Goals as goal

pub returns : goal.returns
returns c =
    λ w right. IfOk-weaker c.adopted_as.result _ _
    (λ adopted is. is ∙ sym (right.adopted c.args.licence.now c.args.term.now)) c.adopted_as.ensures
