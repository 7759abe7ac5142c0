use Rattle.std.proofs.Common.{◌∷◌, [], arith}
use Rattle.desk_sql_layout.specs.Cells.{reading_cells}
use Rattle.desk_sql_write.proofs.Extending.{never_extends, then_extends, table_extends}
use Rattle.desk_sql_write.proofs.change.add_read_document.Goals as goal

pub returns-clause-adds : goal.returns-clause-adds
returns-clause-adds g c =
    then_extends (table_extends 27 (reading_cells c.args.row.now ∷ []))
    c.in_ok-add_document.ensures.adds c.add_reading.ensures.adds

pub returns-in_err-add_document-clause-adds : goal.returns-in_err-add_document-clause-adds
returns-in_err-add_document-clause-adds g c =
    never_extends (table_extends 27 (reading_cells c.args.row.now ∷ [])) (omega arith)
    c.from_residual.ensures.1 c.in_err-add_document.ensures.adds
