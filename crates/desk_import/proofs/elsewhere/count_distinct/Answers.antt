use Rattle.desk_import.proofs.DistinctLemmas.{counted}
use Rattle.desk_import.proofs.elsewhere.count_distinct.Goals as goal

pub loop-text-preserved : goal.loop-text-preserved
loop-text-preserved c =
    counted c.args.listed.now c.loop-text.text-index _ c.loop-text.seen c.insert.new.self
    c.in_ok-insert.field-0 c.loop-text-test.true c.in_ok-insert.ensures.added
    c.in_ok-insert.ensures.updates c.in_ok-insert.ensures.len c.loop-text.invariant
