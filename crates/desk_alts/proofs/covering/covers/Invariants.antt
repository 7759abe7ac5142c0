use Rattle.std.proofs.Common.{◌≤◌, ◌-◌, length}
use Rattle.desk_alts.specs.Masks.{IsCoveredBetween}
use Rattle.desk_alts.proofs.covering.covers.Given as goal

-- no kept mask before the place is within
abbrev pub invariant-loop-at : goal.invariant-loop-at
invariant-loop-at l = record {
  within : l.at ≤ length l.lows;
  none : IsCoveredBetween l.low l.high l.lows l.highs 0 l.at → ⊥;
}

abbrev pub decreases-loop-at : goal.decreases-loop-at
decreases-loop-at l = length l.lows - l.at

abbrev pub invariant-loop-k : goal.invariant-loop-k
invariant-loop-k l = IsCoveredBetween l.low l.high l.lows l.highs 0 l.k → ⊥
