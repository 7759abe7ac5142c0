use Rattle.std.proofs.Common.{ℕ, ◌-◌, ◌<◌, ◌≤◌, length, get_or}
use Rattle.std.specs.Prelude.{IsTrue}
use Rattle.desk_tokens.specs.Tokens.{is_run_byte}
use Rattle.desk_tokens.proofs.cut.run.Given as goal

abbrev pub invariant-loop-n : goal.invariant-loop-n
invariant-loop-n l = record {
  within : l.n ≤ length l.bytes;
  run : (i : ℕ) → i < l.n
      → IsTrue (is_run_byte (get_or l.bytes i 0));
}

abbrev pub decreases-loop-n : goal.decreases-loop-n
decreases-loop-n l = length l.bytes - l.n
