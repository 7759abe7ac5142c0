use Rattle.desk_bom.proofs.TargetLemmas.{above_all}
use Rattle.desk_bom.proofs.arrows.count_upto.Goals as goal

pub returns-then-arrow-place-clause-above : goal.returns-then-arrow-place-clause-above
returns-then-arrow-place-clause-above c =
    above_all c.args.arrows.now c.args.place c.loop-arrow.arrow-index c.loop-arrow.count _
    c.requires c.loop-arrow-test.true c.if-arrow-place.true c.loop-arrow.invariant.count
