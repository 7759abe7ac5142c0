use Rattle.std.proofs.Common.{◌∷◌, [], arith}
use Rattle.desk_sql_layout.specs.Cells.{conclusion_cells}
use Rattle.desk_sql_write.proofs.Extending.{never_extends, next_extends, table_extends}
use Rattle.desk_sql_write.proofs.change.conclude.Goals as goal

pub returns-clause-makes : goal.returns-clause-makes
returns-clause-makes g c =
    next_extends (table_extends 10 (conclusion_cells c.args.row.now ∷ []))
    c.in_ok-drop_conclusion.ensures.drops c.add_conclusion.ensures.adds

pub returns-in_err-drop_conclusion-clause-makes : goal.returns-in_err-drop_conclusion-clause-makes
returns-in_err-drop_conclusion-clause-makes g c =
    never_extends (table_extends 10 (conclusion_cells c.args.row.now ∷ [])) (omega arith)
    c.from_residual.ensures.1 c.in_err-drop_conclusion.ensures.drops
