use Rattle.desk_questions.specs.Lists.{head_line}
use Rattle.desk_bills.proofs.InTurn.{one_more}
use Rattle.desk_questions.proofs.lists.document_lines.Goals as goal

pub loop-head-preserved : goal.loop-head-preserved
loop-head-preserved g c =
    let one = c.in_ok-line.ensures in
    one_more head_line c.loop-head.yielded c.in-Some.head _ _ _ _ _ _ c.loop-head.invariant one.kept
    one.line c.in_ok-push.ensures.ok
