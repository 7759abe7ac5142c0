use Rattle.desk_expr.proofs.FaultLemmas.{not_memory}
use Rattle.desk_findings.proofs.ReadingLemmas.{read_as, read_as_none}
use Rattle.desk_findings.proofs.expression.expression_in.Goals as goal

pub returns-in-Ok : goal.returns-in-Ok
returns-in-Ok c = λ reads is. read_as c.args.profile c.args.text.now c.in-Ok.expr
    (reads c.args.text.now) c.in-Ok.ensures.spelled (is c.args.text.now) c.in-Ok.ensures.only

pub returns-in_ok-unless_memory-in-Err : goal.returns-in_ok-unless_memory-in-Err
returns-in_ok-unless_memory-in-Err c = λ reads is.
    read_as_none c.args.profile c.args.text.now (reads c.args.text.now)
    (not_memory c.in-Err.fault c.in_ok-unless_memory-in-Err.ensures.text c.in-Err.ensures.complete)
    (is c.args.text.now)
