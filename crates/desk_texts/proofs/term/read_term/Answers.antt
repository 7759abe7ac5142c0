use Rattle.desk_expr.proofs.FaultLemmas.{not_memory}
use Rattle.desk_texts.proofs.term.read_term.Goals as goal

pub returns-in_ok-unless_memory-in-Err : goal.returns-in_ok-unless_memory-in-Err
returns-in_ok-unless_memory-in-Err c = not_memory c.in-Err.fault
    c.in_ok-unless_memory-in-Err.ensures.text
    c.in-Err.ensures.complete
