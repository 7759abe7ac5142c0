use Rattle.std.proofs.Common.{◌<◌, length, arith}
use Rattle.desk_alts.proofs.ListingLemmas.{sets_more}
use Rattle.desk_alts.proofs.listing.sets_of.Goals as goal

pub loop-at-preserved : goal.loop-at-preserved
loop-at-preserved c =
    let within : c.loop-at.at < length c.args.kept.now =
    omega (arith, c.loop-at-test.true, c.len-at-end.ensures) in
    sets_more c.args.table.now c.args.kept.now c.loop-at.at c.get.result c.loop-at.sets.items
    c.push.new.self.items c.in_ok-chosen.field-0 within c.get.ensures c.in_ok-chosen.ensures
    c.in_ok-push.ensures.items c.loop-at.invariant
