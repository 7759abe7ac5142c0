use Rattle.std.proofs.Common.{◌≡◌, ◌∷◌, map, take}
use Rattle.desk_lists.specs.Cells.{cell_text}
use Rattle.desk_lists.proofs.cells.table_of.Given as goal

-- the names, and a row for each line before the index
abbrev pub invariant-loop-line : goal.invariant-loop-line
invariant-loop-line g l = l.rows.items ≡ map cell_text l.names
    ∷ map g.L.Line.cells (take l.line-index l.lines)
