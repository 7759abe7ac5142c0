use Rattle.desk_questions.specs.Ready.{keeps_found}
use Rattle.desk_bills.proofs.InTurn.{one_tested}
use Rattle.desk_questions.proofs.ready.unready_among.Goals as goal

pub loop-row-preserved : goal.loop-row-preserved
loop-row-preserved g c =
    let one = c.in_ok-keeps.ensures in
    one_tested (λ t. keeps_found t c.args.day.now) c.loop-row.yielded c.in-Some.row _ _ _ _ _ _
    c.loop-row.invariant one.kept one.found c.in_ok-push_if.ensures
