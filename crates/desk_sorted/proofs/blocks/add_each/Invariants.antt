use Rattle.std.proofs.Common.{◌≡◌, ◌++◌, map, drop}
use Rattle.desk_sorted.proofs.blocks.add_each.Given as goal

abbrev pub invariant-loop-row : goal.invariant-loop-row
invariant-loop-row g l = map (λ row. row.now) l.found.items ++ drop l.row-index l.rows
    ≡ map (λ row. row.now) l.fn.found.items ++ l.rows
