use Rattle.std.proofs.Common.{map, arith}
use Rattle.desk_sql_layout.specs.Cells.{choice_cells}
use Rattle.desk_sql_write.proofs.Behind.{single_put}
use Rattle.desk_sql_write.proofs.Extending.{never_extends, next_extends, table_extends}
use Rattle.desk_sql_write.proofs.change.choose.Goals as goal

pub returns-clause-makes : goal.returns-clause-makes
returns-clause-makes g c =
    next_extends (table_extends 19 (map choice_cells c.args.rows.now))
    c.in_ok-drop_choices.ensures.drops
    (single_put 19 choice_cells c.args.rows.now c.add_all.ensures.adds)

pub returns-in_err-drop_choices-clause-makes : goal.returns-in_err-drop_choices-clause-makes
returns-in_err-drop_choices-clause-makes g c =
    never_extends (table_extends 19 (map choice_cells c.args.rows.now)) (omega arith)
    c.from_residual.ensures.1 c.in_err-drop_choices.ensures.drops
