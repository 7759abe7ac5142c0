use Rattle.std.proofs.Common.{◌≡◌, drop}
use Rattle.desk_access.specs.Follows.{are_first}
use Rattle.desk_memory_rows.proofs.ledger.are_first.Given as goal

abbrev pub invariant-loop-change : goal.invariant-loop-change
invariant-loop-change l = are_first l.number (drop l.change-index l.changes)
    ≡ are_first l.first l.changes
