use Rattle.std.proofs.Common.{◌-◌, ◌≤◌, ◌<◌, ℕ}
use Rattle.memchr.specs.Find.{OccursAt}
use Rattle.desk_tree_patterns.proofs.matching.near_place.Given as goal

abbrev pub invariant-loop-at : goal.invariant-loop-at
invariant-loop-at l = record {
  near : l.near ≤ l.fn.end;
  within : l.at ≤ l.near;
  none : (k : ℕ) → k < l.at → OccursAt l.text l.run k → ⊥;
}

abbrev pub decreases-loop-at : goal.decreases-loop-at
decreases-loop-at l = l.near - l.at
