use Rattle.std.proofs.Common.{◌≡◌, map, take}
use Rattle.desk_lists.proofs.table.fields_of.Given as goal

-- the bytes of each cell before the index
abbrev pub invariant-loop-cell : goal.invariant-loop-cell
invariant-loop-cell l = map (λ field. field.now) l.fields.items ≡ take l.cell-index l.cells
