use Rattle.std.proofs.Common.{◌≡◌, ◌≤◌, true, length, drop, vec_len}
use Rattle.desk_memory_rows.specs.Ledgers.{standing_by}
use Rattle.desk_memory_rows.proofs.ledger.set_states.Given as goal
use Rattle.desk_access.specs.Follows.{are_numbered}

abbrev pub invariant-loop-left : goal.invariant-loop-left
invariant-loop-left l = record {
  within : l.left ≤ length l.places;
  len : vec_len l.rows ≡ vec_len l.fn.rows;
  numbers : are_numbered 1 l.rows.items ≡ true;
  set : l.rows.items ≡ standing_by (drop l.left l.places) l.fn.rows.items;
}

abbrev pub decreases-loop-left : goal.decreases-loop-left
decreases-loop-left l = l.left
