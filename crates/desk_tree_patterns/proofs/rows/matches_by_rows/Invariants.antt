use Rattle.std.proofs.Common.{◌≡◌, ◌+◌, ◌++◌, ℕ, List, length}
use Rattle.desk_tree_patterns.specs.Rows.{IsRow}
use Rattle.desk_tree_patterns.proofs.rows.matches_by_rows.Given as goal

-- the row of what was seen of the path
abbrev pub invariant-loop-byte : goal.invariant-loop-byte
invariant-loop-byte l = record {
  places : length l.row.items ≡ length l.fn.bytes + 1;
  seen : (text : List ℕ) × (l.fn.path ≡ l.rest ++ text)
      × IsRow l.stars l.fn.bytes text l.row.items;
}

abbrev pub decreases-loop-byte : goal.decreases-loop-byte
decreases-loop-byte l = length l.rest
