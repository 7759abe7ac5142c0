use Rattle.std.proofs.Common.{◌≡◌, take, flat_map}
use Rattle.sqlite.specs.Values.{bound}
use Rattle.desk_sql_layout.specs.Cells.{frozen_cells}
use Rattle.desk_sql_write.proofs.release.values_of_frozen.Given as goal

-- the values of the rows so far
abbrev pub invariant-loop-row : goal.invariant-loop-row
invariant-loop-row l = bound l.values.items ≡ flat_map frozen_cells (take l.row-index l.rows)
