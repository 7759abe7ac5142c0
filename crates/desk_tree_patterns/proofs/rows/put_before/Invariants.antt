use Rattle.std.proofs.Common.{◌≡◌, ◌<◌, ◌≤◌, ◌+◌, ◌&&◌, ◌||◌, ◌==◌, ℕ, length, get_or, false}
use Rattle.desk_tree_patterns.proofs.rows.put_before.Given as goal

abbrev pub invariant-loop-place : goal.invariant-loop-place
invariant-loop-place l = record {
  len : length l.row ≡ length l.fn.row;
  done : (p : ℕ) → p < l.place → get_or l.row p false
      ≡ ((get_or l.fn.row p false && get_or l.fn.stays p false)
      || (get_or l.fn.row (p + 1) false && (get_or l.fn.bytes p 0 == l.fn.byte)));
  left : (p : ℕ) → l.place ≤ p → get_or l.row p false ≡ get_or l.fn.row p false;
}
