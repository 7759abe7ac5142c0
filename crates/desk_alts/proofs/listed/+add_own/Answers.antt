use Rattle.std.proofs.Common.{inl, inr, arith}
use Rattle.desk_alts.proofs.FrontLemmas.{part_is_smaller}
use Rattle.desk_alts.proofs.listed.+add_own.Goals as goal

pub add_own-requires : goal.add_own-requires
add_own-requires t c =
    let smaller = part_is_smaller c.in-All.parts.now c.loop-part.part-index c.part-item.result
    c.args.expr.now c.loop-part-test.true c.part-item.is (inl c.in-All.ensures.top) in
    omega (arith, smaller, c.decreases)

pub add_own-requires-in-loop-part-2 : goal.add_own-requires-in-loop-part-2
add_own-requires-in-loop-part-2 t c =
    let smaller = part_is_smaller c.in-Any.parts.now c.loop-part-2.part-index
    c.part-item-in-loop-part-2.result c.args.expr.now c.loop-part-2-test.true
    c.part-item-in-loop-part-2.is (inr c.in-Any.ensures.top) in
    omega (arith, smaller, c.decreases)
