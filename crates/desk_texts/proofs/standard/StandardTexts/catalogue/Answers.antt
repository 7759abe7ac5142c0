use Rattle.std.proofs.Common.{◌∙◌, sym}
use Rattle.std.proofs.lemmas.Result.{IfOk-weaker}
use Rattle.desk_texts.proofs.standard.StandardTexts.catalogue.Goals as goal

pub returns : goal.returns
returns c =
    λ w right. IfOk-weaker c.read_catalogue.result _ _
    (λ read is. is ∙ sym (right.catalogue c.args.text.now))
    (c.read_catalogue.ensures w.term right.term)
