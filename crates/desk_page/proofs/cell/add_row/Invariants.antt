use Rattle.std.proofs.Common.{◌≡◌, ◌++◌, map, take}
use Rattle.std.specs.String.{string_bytes}
use Rattle.desk_page.specs.Cells.{cell_of, row_text}
use Rattle.desk_page.proofs.cell.add_row.Given as goal

-- the cells before the index
abbrev pub invariant-loop-cell : goal.invariant-loop-cell
invariant-loop-cell l = string_bytes l.text ≡ string_bytes l.initial.text
    ++ row_text (map cell_of (take l.cell-index l.cells))
