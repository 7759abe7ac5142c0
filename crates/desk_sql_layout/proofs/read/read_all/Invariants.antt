use Rattle.std.proofs.Common.{◌≡◌, List, map, take}
use Rattle.desk_sql_layout.proofs.read.read_all.Given as goal

-- what was read so far is the beginning of the list
abbrev pub invariant-loop-row : goal.invariant-loop-row
invariant-loop-row g l = (xs : List _) → l.rows ≡ map g.T.ReadRow.cells xs
    → l.found.items ≡ take l.row-index xs
