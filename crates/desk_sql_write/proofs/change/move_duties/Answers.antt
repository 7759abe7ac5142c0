use Rattle.std.proofs.Common.{arith}
use Rattle.desk_sql_write.proofs.Extending.{never_extends, next_extends, steps_extend}
use Rattle.desk_sql_write.proofs.change.move_duties.Goals as goal

pub returns-clause-makes : goal.returns-clause-makes
returns-clause-makes g c =
    next_extends (steps_extend c.args.changes.now) c.in_ok-set_duties.ensures.sets
    c.add_steps.ensures.adds

pub returns-in_err-set_duties-clause-makes : goal.returns-in_err-set_duties-clause-makes
returns-in_err-set_duties-clause-makes g c =
    never_extends (steps_extend c.args.changes.now) (omega arith) c.from_residual.ensures.1
    c.in_err-set_duties.ensures.sets
