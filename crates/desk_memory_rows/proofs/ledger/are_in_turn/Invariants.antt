use Rattle.std.proofs.Common.{◌≡◌, drop, length}
use Rattle.desk_memory_rows.specs.Ledgers.{all_of, are_in_turn}
use Rattle.desk_memory_rows.proofs.ledger.are_in_turn.Given as goal

abbrev pub invariant-loop-change : goal.invariant-loop-change
invariant-loop-change l = are_in_turn l.last (length l.groups) (all_of l.groups)
    (drop l.change-index l.changes) ≡ are_in_turn 0 (length l.groups) (all_of l.groups) l.changes
