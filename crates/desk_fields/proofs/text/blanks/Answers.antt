use Rattle.std.proofs.Common.{length, sym, arith}
use Rattle.std.proofs.lemmas.List.Sums.{prefix_len_is}
use Rattle.std.proofs.lemmas.Bool.Decides.{nat_tests}
use Rattle.desk_fields.proofs.text.blanks.Goals as goal
use Rattle.desk_base.specs.Bytes.{is_blank}

pub returns-then-not-is_blank : goal.returns-then-not-is_blank
returns-then-not-is_blank c = sym (prefix_len_is is_blank c.args.bytes.now c.loop-i.i 0
    (omega arith) c.loop-i.invariant (λ lt. grind (arith, nat_tests)))

pub returns : goal.returns
returns c = sym (prefix_len_is is_blank c.args.bytes.now (length c.args.bytes.now) 0 (omega arith)
    (λ k lt. c.loop-i.invariant k (omega arith)) (λ lt. absurd (omega arith)))
