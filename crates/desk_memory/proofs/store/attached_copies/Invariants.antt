use Rattle.std.proofs.Common.{◌≡◌, ◌++◌, map, drop}
use Rattle.desk_memory.proofs.store.attached_copies.Given as goal

abbrev pub invariant-loop-row : goal.invariant-loop-row
invariant-loop-row l = l.copies.items ++ map (λ row. row.now) (drop l.row-index l.rows)
    ≡ map (λ row. row.now) l.rows
