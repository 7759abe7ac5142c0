use Rattle.std.proofs.Common.{◌≡◌, map, take}
use Rattle.desk_lists.specs.CsvTable.{as_text}
use Rattle.desk_lists.proofs.table.as_texts.Given as goal

-- each cell before the index as a text
abbrev pub invariant-loop-cell : goal.invariant-loop-cell
invariant-loop-cell l = l.texts.items ≡ map as_text (take l.cell-index l.cells)
