use Rattle.std.proofs.Common.{map, arith}
use Rattle.desk_sql_layout.specs.Cells.{rule_cells}
use Rattle.desk_sql_write.proofs.Behind.{single_put}
use Rattle.desk_sql_write.proofs.Extending.{never_extends, then_extends, table_extends}
use Rattle.desk_sql_write.proofs.change.load.Goals as goal

pub returns-clause-adds : goal.returns-clause-adds
returns-clause-adds g c =
    then_extends (table_extends 2 (map rule_cells c.args.rules.now))
    c.in_ok-add_revision.ensures.adds
    (single_put 2 rule_cells c.args.rules.now c.add_all.ensures.adds)

pub returns-in_err-add_revision-clause-adds : goal.returns-in_err-add_revision-clause-adds
returns-in_err-add_revision-clause-adds g c =
    never_extends (table_extends 2 (map rule_cells c.args.rules.now)) (omega arith)
    c.from_residual.ensures.1 c.in_err-add_revision.ensures.adds
