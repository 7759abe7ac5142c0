use Rattle.std.proofs.Common.{◌≡◌, ℕ, ◌<◌, get_or, true}
use Rattle.std.specs.Prelude.{not}
use Rattle.desk_fields.proofs.text.word_len.Given as goal
use Rattle.desk_base.specs.Bytes.{is_blank}

abbrev pub invariant-loop-i : goal.invariant-loop-i
invariant-loop-i l = (k : ℕ) → k < l.i → not (is_blank (get_or l.bytes k 0)) ≡ true
