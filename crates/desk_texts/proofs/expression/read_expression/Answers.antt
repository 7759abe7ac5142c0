use Rattle.desk_expr.proofs.FaultLemmas.{not_memory}
use Rattle.desk_texts.proofs.expression.read_expression.Goals as goal

pub returns-in_ok-unless_memory-in-Err : goal.returns-in_ok-unless_memory-in-Err
returns-in_ok-unless_memory-in-Err c = λ e is. not_memory c.in-Err.fault
    c.in_ok-unless_memory-in-Err.ensures.text
    c.in-Err.ensures.complete e is.1
