use Rattle.std.proofs.Common.{◌≡◌, ℕ, ◌+◌, ◌≤◌, ◌<◌, length, take, get_or}
use Rattle.std.specs.Prelude.{IsTrue}
use Rattle.std.specs.List.{suffix_len}
use Rattle.desk_fields.proofs.text.kept_len.Given as goal
use Rattle.desk_base.specs.Bytes.{is_blank}

abbrev pub invariant-loop-n : goal.invariant-loop-n
invariant-loop-n l = record {
  within : l.n ≤ length l.bytes;
  kept : l.n + suffix_len is_blank l.bytes
      ≡ length l.bytes + suffix_len is_blank (take l.n l.bytes);
  blank : (i : ℕ) → l.n ≤ i → i < length l.bytes → IsTrue (is_blank (get_or l.bytes i 0));
}

abbrev pub decreases-loop-n : goal.decreases-loop-n
decreases-loop-n l = l.n
