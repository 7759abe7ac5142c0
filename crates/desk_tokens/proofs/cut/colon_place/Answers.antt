use Rattle.std.proofs.Common.{sym, arith, eq-eqb, length}
use Rattle.std.specs.Prelude.{◌==◌}
use Rattle.std.proofs.lemmas.List.Sums.{position_or_len_is}
use Rattle.desk_tokens.proofs.cut.colon_place.Goals as goal

pub returns-then-byte-eq58 : goal.returns-then-byte-eq58
returns-then-byte-eq58 c =
    sym (position_or_len_is (λ b. b == 58) c.args.bytes.now c.loop-place.place 0 (omega arith)
    c.loop-place.invariant (λ within. eq-eqb _ 58 c.if-byte-eq58.true))

pub returns : goal.returns
returns c =
    sym (position_or_len_is (λ b. b == 58) c.args.bytes.now (length c.args.bytes.now) 0
    (omega arith) (λ k within. c.loop-place.invariant k (omega arith))
    (λ beyond. absurd (omega arith)))
