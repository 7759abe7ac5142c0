use Rattle.std.proofs.Common.{◌≡◌, map, take}
use Rattle.desk_lists.specs.CsvTable.{as_text}
use Rattle.desk_lists.proofs.table.are_texts.Given as goal

-- the cells before the index are texts
abbrev pub invariant-loop-cell : goal.invariant-loop-cell
invariant-loop-cell l = map as_text (take l.cell-index l.cells) ≡ take l.cell-index l.cells
