use Rattle.std.proofs.Common.{◌∙◌}
use Rattle.desk_base.proofs.SetLemmas.{set_step}
use Rattle.desk_base.proofs.sets.text_set.Goals as goal

pub loop-text-preserved : goal.loop-text-preserved
loop-text-preserved c = λ q.
    set_step c.args.listed.now c.loop-text.text-index _ c.loop-text.set c.insert.new.self
    c.loop-text-test.true c.in_ok-insert.ensures.updates q ∙ c.loop-text.invariant q
