use Rattle.std.proofs.Common.{filter, map, arith}
use Rattle.desk_sql_layout.specs.Cells.{waiver_cells}
use Rattle.desk_sql_write.proofs.Behind.{waivers_put}
use Rattle.desk_sql_write.proofs.Extending.{never_extends, then_extends, table_extends}
use Rattle.desk_sql_write.proofs.duty.add_steps.Goals as goal
use Rattle.desk_model.specs.Moves.{is_waiver}

pub returns-clause-adds : goal.returns-clause-adds
returns-clause-adds g c =
    then_extends (table_extends 28 (map waiver_cells (filter is_waiver c.args.rows.now)))
    c.in_ok-add_in_eights.ensures.adds (waivers_put c.args.rows.now c.add_all.ensures.adds)

pub returns-in_err-add_in_eights-clause-adds : goal.returns-in_err-add_in_eights-clause-adds
returns-in_err-add_in_eights-clause-adds g c =
    never_extends (table_extends 28 (map waiver_cells (filter is_waiver c.args.rows.now)))
    (omega arith) c.from_residual.ensures.1 c.in_err-add_in_eights.ensures.adds
