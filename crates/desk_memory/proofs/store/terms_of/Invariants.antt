use Rattle.std.proofs.Common.{◌≡◌, ◌++◌, map, drop}
use Rattle.desk_memory.proofs.store.terms_of.Given as goal

abbrev pub invariant-loop-row : goal.invariant-loop-row
invariant-loop-row l = l.terms.items ++ map (λ row. row.now.term) (drop l.row-index l.rows)
    ≡ map (λ row. row.now.term) l.rows
