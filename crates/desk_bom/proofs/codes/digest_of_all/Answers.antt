use Rattle.std.proofs.Common.{subst}
use Rattle.sha1.specs.Sha1.{Holds}
use Rattle.desk_bom.proofs.LoopLemmas.{concat_more}
use Rattle.desk_bom.proofs.codes.digest_of_all.Goals as goal

pub loop-text-preserved : goal.loop-text-preserved
loop-text-preserved c =
    subst (Holds c.update.new.self)
    (concat_more c.args.texts.now c.loop-text.text-index _ c.loop-text-test.true)
    (c.update.ensures _ c.loop-text.invariant)
