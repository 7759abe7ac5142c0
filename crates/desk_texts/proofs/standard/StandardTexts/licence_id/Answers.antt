use Rattle.std.proofs.Common.{◌∙◌, sym}
use Rattle.std.proofs.lemmas.Result.{IfOk-weaker}
use Rattle.desk_texts.proofs.standard.StandardTexts.licence_id.Goals as goal

pub returns : goal.returns
returns c =
    λ w right. IfOk-weaker c.licence_id_of.result _ _
    (λ id is. is ∙ sym (right.licence_id c.args.term.now)) c.licence_id_of.ensures
