use Rattle.std.proofs.Common.{ℕ, ◌<◌, ◌≤◌, ◌-◌, length}
use Rattle.desk_expr.specs.Meaning.{CanGo}
use Rattle.desk_alts.proofs.truth.check_choice.Given as goal

-- no term before the place can go
abbrev pub invariant-loop-from : goal.invariant-loop-from
invariant-loop-from l = record {
  within : l.from ≤ length l.chosen;
  kept : (j : ℕ) → j < l.from
      → CanGo l.chosen l.expr j → ⊥;
}

abbrev pub decreases-loop-from : goal.decreases-loop-from
decreases-loop-from l = length l.chosen - l.from
