use Rattle.std.proofs.Common.{◌≡◌, ◌++◌, drop}
use Rattle.desk_memory.proofs.store.release_copies.Given as goal

abbrev pub invariant-loop-row : goal.invariant-loop-row
invariant-loop-row l = l.copies.items ++ drop l.row-index l.rows ≡ l.rows
