use Rattle.std.proofs.Common.{◌≡◌, ℕ, ◌+◌, ◌-◌, ◌<◌, ◌≤◌, length, slice_index, true}
use Rattle.desk_import.specs.Inputs.{continues}
use Rattle.desk_import.proofs.input.last_start.Given as goal

-- all bytes behind the place continue a character
abbrev pub invariant-loop-start : goal.invariant-loop-start
invariant-loop-start l = (l.first + 4 ≡ length l.bytes) × (l.first ≤ l.start)
    × (l.start < length l.bytes)
    × ((i : ℕ) → l.start < i → i < length l.bytes → continues (slice_index l.bytes i) ≡ true)

abbrev pub decreases-loop-start : goal.decreases-loop-start
decreases-loop-start l = l.start - l.first
