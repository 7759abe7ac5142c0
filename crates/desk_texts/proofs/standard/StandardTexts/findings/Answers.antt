use Rattle.std.proofs.Common.{sym}
use Rattle.std.proofs.lemmas.Result.{IfOk-weaker}
use Rattle.desk_texts.proofs.standard.StandardTexts.findings.Goals as goal

pub returns : goal.returns
returns c =
    λ w right. IfOk-weaker c.read_findings.result _ _
    (λ rows (read, spells, finds).
    sym (right.findings c.args.profile c.args.bytes.now read rows spells finds))
    c.read_findings.ensures
