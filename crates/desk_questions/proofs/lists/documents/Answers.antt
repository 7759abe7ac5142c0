use Rattle.std.proofs.Common.{◌∙◌, ap, map}
use Rattle.desk_model.specs.declared.command.Answer.TheVariants as answered
use Rattle.desk_questions.specs.Lists.{head_line}
use Rattle.desk_questions.proofs.Lines.{headed}
use Rattle.desk_questions.proofs.lists.documents.Goals as goal

pub returns-clause-answer : goal.returns-clause-answer
returns-clause-answer g c = λ w h t held.
    let heads = c.in_ok-heads.ensures in
    let lines = c.in_ok-document_lines.ensures in
    ap answered.Documents (lines.lines h t (heads.kept.kept.spared.holds t held)
    ∙ (ap (map (head_line t)) (heads.found (lines.kept.kept.spared.honest h) t held)
    ∙ headed t t.document))
