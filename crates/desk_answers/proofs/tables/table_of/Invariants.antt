use Rattle.std.proofs.Common.{◌≡◌, ◌∷◌, map, take}
use Rattle.desk_lists.specs.Cells.{cell_text}
use Rattle.desk_answers.proofs.tables.table_of.Given as goal

-- the names, and a row for each of those before the index
abbrev pub invariant-loop-row : goal.invariant-loop-row
invariant-loop-row g l = l.table.items ≡ map cell_text l.names
    ∷ map g.R.Row.cells (take l.row-index l.rows)
