use Rattle.std.proofs.Common.{◌∙◌, ap, map}
use Rattle.desk_model.specs.declared.command.Answer.TheVariants as answered
use Rattle.desk_questions.specs.Lists.{counted_line}
use Rattle.desk_questions.proofs.Lines.{counted}
use Rattle.desk_questions.proofs.lists.releases.Goals as goal

pub returns-clause-answer : goal.returns-clause-answer
returns-clause-answer g c = λ w h t held.
    let rows = c.in_ok-rows.ensures in
    let lines = c.in_ok-release_lines.ensures in
    ap answered.Releases (lines.lines h t (rows.kept.kept.spared.holds t held)
    ∙ (ap (map (counted_line t)) (rows.found (lines.kept.kept.spared.honest h) t held) ∙ counted t))
