use Rattle.std.proofs.Common.{◌≡◌, drop}
use Rattle.desk_memory_rows.proofs.ledger.is_numbered.Given as goal
use Rattle.desk_access.specs.Follows.{are_numbered}

abbrev pub invariant-loop-row : goal.invariant-loop-row
invariant-loop-row l = are_numbered l.number (drop l.row-index l.rows) ≡ are_numbered l.first l.rows
