use Rattle.std.proofs.Common.{rules}
use Rattle.desk_sql_layout.specs.Cells.{duty_cells}
use Rattle.desk_sql_write.proofs.Lists.{values_more}
use Rattle.desk_sql_write.proofs.duty.values_of_duties.Goals as goal

pub loop-row-preserved : goal.loop-row-preserved
loop-row-preserved c =
    values_more duty_cells _ c.args.rows.now c.loop-row.row-index c.row-item.result
    c.loop-row.values.items c.duty_values.result c.extend_from_slice.new.self.items (search rules)
    c.loop-row.invariant c.duty_values.ensures c.row-item.is c.loop-row-test.true
