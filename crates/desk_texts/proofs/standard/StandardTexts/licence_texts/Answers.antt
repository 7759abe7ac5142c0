use Rattle.std.proofs.Common.{◌∙◌, sym}
use Rattle.std.proofs.lemmas.Result.{IfOk-weaker}
use Rattle.desk_texts.proofs.Taking.{same_texts}
use Rattle.desk_texts.proofs.standard.StandardTexts.licence_texts.Goals as goal

pub returns : goal.returns
returns c = λ w right. IfOk-weaker c.licence_texts.result _ _
    (λ found e. e ∙ same_texts _ (λ id. w.licence_text c.args.text.now id)
    (λ id. sym (right.licence_text c.args.text.now id)) c.args.ids.now)
    (c.licence_texts.ensures w.term right.term)
