use Rattle.std.proofs.Common.{◌≡◌, ◌+◌, ◌<◌, ℕ, ℤ, pos, get_or}
use Rattle.desk_audit_texts.proofs.places.are_from_one.Given as goal

abbrev pub invariant-loop-index : goal.invariant-loop-index
invariant-loop-index l = (k : ℕ) (d : ℤ) → k < l.index → get_or l.numbers k d ≡ pos (k + 1)
