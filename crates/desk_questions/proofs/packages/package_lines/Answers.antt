use Rattle.desk_model.specs.Queries.{package_line}
use Rattle.desk_history.specs.FromTables.{choice_found, conclusion_found}
use Rattle.desk_access.proofs.Chains.{same_then_same}
use Rattle.desk_bills.proofs.InTurn.{line_more}
use Rattle.desk_questions.proofs.packages.package_lines.Goals as goal

pub loop-row-preserved : goal.loop-row-preserved
loop-row-preserved g c =
    let before = c.loop-row.invariant in
    let one = c.in_ok-line.ensures in
    record {
      same = same_then_same _ _ _ before.same one.kept;
      found = λ w right.
          line_more (λ t. package_line (conclusion_found w t) (choice_found t c.args.release.now))
          c.loop-row.yielded c.in-Some.row _ _ _ _ _ _ before.same one.kept
          (before.found w right) (one.line w right) c.in_ok-push.ensures.ok;
    }
