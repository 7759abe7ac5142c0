use Rattle.std.proofs.Common.{◌≡◌, map, take}
use Rattle.desk_lists.specs.Cells.{cell_text}
use Rattle.desk_lists.proofs.cells.row_of.Given as goal

-- the text of each cell before the index
abbrev pub invariant-loop-cell : goal.invariant-loop-cell
invariant-loop-cell l = l.row.items ≡ map cell_text (take l.cell-index l.cells)
