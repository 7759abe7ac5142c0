use Rattle.std.proofs.Common.{◌∙◌, ◌++◌, ap}
use Rattle.desk_tree_reports.specs.Reports.{summary}
use Rattle.desk_tree_reports.proofs.summary.lines_text.Goals as goal

pub returns : goal.returns
returns c =
    let lines = c.in_ok-text.ensures in (
      lines.0,
      lines.1,
      c.in_ok-add_summary.ensures lines.0 lines.1
          ∙ ap (λ text. text ++ summary lines.0 c.args.problems.now.covered) lines.2,
    )
