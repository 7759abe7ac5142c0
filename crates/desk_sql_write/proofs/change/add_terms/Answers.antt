use Rattle.std.proofs.Common.{arith}
use Rattle.desk_sql_write.proofs.Extending.{never_extends, then_extends, raised_extend}
use Rattle.desk_sql_write.proofs.change.add_terms.Goals as goal

pub returns-clause-adds : goal.returns-clause-adds
returns-clause-adds g c =
    then_extends (raised_extend c.args.duties.now c.args.changes.now)
    c.in_ok-add_in_eights.ensures.adds c.raise.ensures.adds

pub returns-in_err-add_in_eights-clause-adds : goal.returns-in_err-add_in_eights-clause-adds
returns-in_err-add_in_eights-clause-adds g c =
    never_extends (raised_extend c.args.duties.now c.args.changes.now) (omega arith)
    c.from_residual.ensures.1 c.in_err-add_in_eights.ensures.adds
