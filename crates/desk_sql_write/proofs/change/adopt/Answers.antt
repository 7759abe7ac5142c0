use Rattle.std.proofs.Common.{◌∷◌, [], arith}
use Rattle.desk_sql_layout.specs.Cells.{adoption_cells}
use Rattle.desk_sql_write.proofs.Extending.{never_extends, next_extends, table_extends}
use Rattle.desk_sql_write.proofs.change.adopt.Goals as goal

pub returns-clause-makes : goal.returns-clause-makes
returns-clause-makes g c =
    next_extends (table_extends 12 (adoption_cells c.args.row.now ∷ []))
    c.in_ok-drop_adoption.ensures.drops c.add_adoption.ensures.adds

pub returns-in_err-drop_adoption-clause-makes : goal.returns-in_err-drop_adoption-clause-makes
returns-in_err-drop_adoption-clause-makes g c =
    never_extends (table_extends 12 (adoption_cells c.args.row.now ∷ [])) (omega arith)
    c.from_residual.ensures.1 c.in_err-drop_adoption.ensures.drops
