use Rattle.std.proofs.Common.{◌≡◌, ℕ, ◌≤◌, ◌-◌, length}
use Rattle.desk_alts.specs.Listed.{lower_in, lower_by}
use Rattle.desk_alts.proofs.listed.lower.Given as goal

-- the remaining halvings end at the same place
abbrev pub invariant-loop-low : goal.invariant-loop-low
invariant-loop-low l = record {
  ordered : l.low ≤ l.high;
  within : l.high ≤ length l.own;
  left : (n : ℕ) × (l.high - l.low ≤ n)
      × (lower_by n l.own l.term l.low l.high ≡ lower_in l.own l.term);
}

abbrev pub decreases-loop-low : goal.decreases-loop-low
decreases-loop-low l = l.high - l.low
