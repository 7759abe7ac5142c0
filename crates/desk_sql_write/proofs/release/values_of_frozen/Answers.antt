use Rattle.std.proofs.Common.{rules}
use Rattle.desk_sql_layout.specs.Cells.{frozen_cells}
use Rattle.desk_sql_write.proofs.Lists.{values_more}
use Rattle.desk_sql_write.proofs.release.values_of_frozen.Goals as goal

pub loop-row-preserved : goal.loop-row-preserved
loop-row-preserved c =
    values_more frozen_cells _ c.args.rows.now c.loop-row.row-index c.row-item.result
    c.loop-row.values.items c.frozen_values.result c.extend_from_slice.new.self.items (search rules)
    c.loop-row.invariant c.frozen_values.ensures c.row-item.is c.loop-row-test.true
