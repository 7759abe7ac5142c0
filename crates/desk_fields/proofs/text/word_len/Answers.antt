use Rattle.std.proofs.Common.{length, sym, arith}
use Rattle.std.specs.Prelude.{not}
use Rattle.std.proofs.lemmas.List.Sums.{prefix_len_is}
use Rattle.std.proofs.lemmas.Bool.Decides.{nat_tests}
use Rattle.desk_fields.proofs.text.word_len.Goals as goal
use Rattle.desk_base.specs.Bytes.{is_blank}

pub returns-then-is_blank-clause-value : goal.returns-then-is_blank-clause-value
returns-then-is_blank-clause-value c = sym (prefix_len_is (λ b. not (is_blank b)) c.args.bytes.now
    c.loop-i.i 0 (omega arith) c.loop-i.invariant (λ lt. grind (arith, nat_tests)))

pub returns-clause-value : goal.returns-clause-value
returns-clause-value c = sym (prefix_len_is (λ b. not (is_blank b)) c.args.bytes.now
    (length c.args.bytes.now) 0 (omega arith) (λ k lt. c.loop-i.invariant k (omega arith))
    (λ lt. absurd (omega arith)))
