use Rattle.std.proofs.Common.{◌≡◌, true, vec_len}
use Rattle.desk_memory_rows.specs.Ledgers.{all_of, are_in_turn}
use Rattle.desk_memory_rows.proofs.Pushing.{HasPushed}
use Rattle.desk_memory_rows.proofs.ledger.push_all.Given as goal

abbrev pub invariant-loop-change : goal.invariant-loop-change
invariant-loop-change l = record {
  pushed : HasPushed l.fn.changes.items l.changes.items l.fn.groups.items l.groups.items;
  len : vec_len l.groups ≡ vec_len l.fn.groups;
  turn : are_in_turn 0 (vec_len l.groups) (all_of l.groups.items) l.changes.items ≡ true;
}

abbrev pub decreases-loop-change : goal.decreases-loop-change
decreases-loop-change l = vec_len l.changes
