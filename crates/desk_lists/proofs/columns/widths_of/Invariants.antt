use Rattle.std.proofs.Common.{◌≡◌, map, take}
use Rattle.desk_report.specs.Columns.{width}
use Rattle.desk_lists.proofs.columns.widths_of.Given as goal

-- the width of each cell before the index
abbrev pub invariant-loop-cell : goal.invariant-loop-cell
invariant-loop-cell l = l.widths.items ≡ map width (take l.cell-index l.cells)
