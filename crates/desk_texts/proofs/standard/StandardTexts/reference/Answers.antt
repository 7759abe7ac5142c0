use Rattle.std.proofs.Common.{◌∙◌, sym}
use Rattle.std.proofs.lemmas.Result.{IfOk-weaker}
use Rattle.desk_texts.proofs.standard.StandardTexts.reference.Goals as goal

pub returns : goal.returns
returns c =
    λ w right. IfOk-weaker c.reference_of.result _ _
    (λ reference is. is ∙ sym (right.reference c.args.term.now)) c.reference_of.ensures
