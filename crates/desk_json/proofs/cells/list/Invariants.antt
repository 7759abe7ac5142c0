use Rattle.std.proofs.Common.{◌≡◌, map, take}
use Rattle.serde_json.specs.View.{view}
use Rattle.desk_json.specs.Cells.{cell_data}
use Rattle.desk_json.proofs.cells.list.Given as goal

abbrev pub invariant-loop-cell : goal.invariant-loop-cell
invariant-loop-cell l = map view l.values.items ≡ map cell_data (take l.cell-index l.cells)
