use Rattle.std.proofs.Common.{◌∙◌, ap, subst}
use Rattle.std.specs.Prelude.{◌==◌}
use Rattle.desk_tree_reports.specs.Reports.{text_of}
use Rattle.desk_tree_problems.specs.Rows.{AreRows}
use Rattle.desk_tree_problems.specs.declared.problems.Problems.{Problems}
use Rattle.desk_tree_reports.proofs.CountLemmas.{none_counted}
use Rattle.desk_tree_reports.proofs.reports.report_on.Goals as goal

pub returns : goal.returns
returns c = λ r right.
    let p = c.in_ok-problems.problems in
    let is = c.let_keys_go.ensures in
    let text = c.in_ok-text_of.ensures in
    let are : AreRows p text.0 = subst (λ (shown : Problems). AreRows shown text.0) is text.1 in
    record {
      problems = p;
      rows = text.0;
      are_problems = c.in_ok-problems.ensures.problems r right;
      are_rows = are;
      text = text.2 ∙ ap (λ (shown : Problems). text_of c.args.json text.0 shown.covered) is;
      clean = ap (λ number. number == 0) (c.in_ok-number.ensures text.0 are) ∙ none_counted text.0;
    }
