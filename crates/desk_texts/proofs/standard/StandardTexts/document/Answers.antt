use Rattle.std.proofs.Common.{sym}
use Rattle.std.proofs.lemmas.Result.{IfOk-weaker}
use Rattle.desk_texts.proofs.standard.StandardTexts.document.Goals as goal

pub returns : goal.returns
returns c =
    λ w right. IfOk-weaker c.read_document.result _ _
    (λ answer (read, spells, keeps). sym (right.document c.args.bytes.now read answer spells keeps))
    c.read_document.ensures
