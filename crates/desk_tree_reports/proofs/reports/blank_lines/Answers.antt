use Rattle.std.proofs.lemmas.Result.{IfOk-weaker}
use Rattle.desk_tree_reports.proofs.reports.blank_lines.Goals as goal

pub returns : goal.returns
returns c = λ r right.
    IfOk-weaker c.problem_lines.result _ _ (λ text lines. record {
      problems = c.in_ok-problems.problems;
      rows = lines.0;
      are_problems = c.in_ok-problems.ensures.problems r right;
      are_rows = lines.1;
      are_lines = lines.2;
    }) c.problem_lines.ensures
