use Rattle.std.proofs.Common.{map, arith}
use Rattle.desk_sql_layout.specs.Cells.{package_cells, extracted_cells}
use Rattle.desk_sql_write.proofs.Behind.{single_put}
use Rattle.desk_sql_write.proofs.Extending.{never_extends, then_extends, table_extends}
use Rattle.desk_sql_write.proofs.change.add_parts.Goals as goal

pub returns-clause-adds : goal.returns-clause-adds
returns-clause-adds g c =
    then_extends (table_extends 8 (map extracted_cells c.args.references.now))
    (single_put 6 package_cells c.args.packages.now c.in_ok-add_all.ensures.adds)
    (single_put 8 extracted_cells c.args.references.now c.add_all-2.ensures.adds)

pub returns-in_err-add_all-clause-adds : goal.returns-in_err-add_all-clause-adds
returns-in_err-add_all-clause-adds g c =
    never_extends (table_extends 8 (map extracted_cells c.args.references.now)) (omega arith)
    c.from_residual.ensures.1
    (single_put 6 package_cells c.args.packages.now c.in_err-add_all.ensures.adds)
