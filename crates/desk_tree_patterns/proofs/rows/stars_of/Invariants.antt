use Rattle.std.proofs.Common.{◌≡◌, ◌≤◌, ◌+◌, ℕ, length, get_or, false, take, drop}
use Rattle.std.specs.Prelude.{IsTrue}
use Rattle.desk_tree_patterns.specs.Parts.{pieces}
use Rattle.desk_tree_patterns.specs.Rows.{onward, Same}
use Rattle.desk_tree_patterns.proofs.RowLemmas.{Clear}
use Rattle.desk_tree_patterns.proofs.rows.stars_of.Given as goal

-- the stars so far, and the parts that are left, are the pattern
abbrev pub invariant-loop-part : goal.invariant-loop-part
invariant-loop-part l = record {
  within : l.at ≤ length l.bytes;
  any_places : length l.stars.any.items ≡ length l.bytes + 1;
  double_places : length l.stars.double.items ≡ length l.bytes + 1;
  double_any : (p : ℕ) → IsTrue (get_or l.stars.double.items p false)
      → IsTrue (get_or l.stars.any.items p false);
  clear : Clear l.stars l.at;
  same : Same (pieces l.bytes l.parts)
      (onward l.stars 0 (take l.at l.bytes)
      (pieces (drop l.at l.bytes) (drop l.part-index l.parts)));
}
