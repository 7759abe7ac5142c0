use Rattle.desk_questions.specs.Lists.{counted_line}
use Rattle.desk_bills.proofs.InTurn.{one_more}
use Rattle.desk_questions.proofs.lists.release_lines.Goals as goal

pub loop-row-preserved : goal.loop-row-preserved
loop-row-preserved g c =
    let one = c.in_ok-line.ensures in
    one_more counted_line c.loop-row.yielded c.in-Some.row _ _ _ _ _ _ c.loop-row.invariant one.kept
    one.line c.in_ok-push.ensures.ok
