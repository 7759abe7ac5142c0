use Rattle.std.proofs.Common.{ℕ, ◌-◌, ◌<◌, ◌≤◌, length, get_or}
use Rattle.std.specs.Prelude.{IsTrue}
use Rattle.desk_tokens.proofs.cut.blanks.Given as goal
use Rattle.desk_base.specs.Bytes.{is_blank}

abbrev pub invariant-loop-n : goal.invariant-loop-n
invariant-loop-n l = record {
  within : l.n ≤ length l.bytes;
  blank : (i : ℕ) → i < l.n
      → IsTrue (is_blank (get_or l.bytes i 0));
}

abbrev pub decreases-loop-n : goal.decreases-loop-n
decreases-loop-n l = length l.bytes - l.n
