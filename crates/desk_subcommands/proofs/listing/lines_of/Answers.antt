use Rattle.std.specs.String.{string_bytes}
use Rattle.desk_subcommands.proofs.ListingLemmas.{sets_more}
use Rattle.desk_subcommands.proofs.listing.lines_of.Goals as goal

pub loop-set-preserved : goal.loop-set-preserved
loop-set-preserved c =
    sets_more c.args.sets.now c.loop-set.set-index c.set-item.result (string_bytes c.loop-set.text)
    (string_bytes c.add_set.new.text) (string_bytes c.push_str.new.self) c.loop-set-test.true
    c.set-item.is c.loop-set.invariant c.in_ok-add_set.ensures c.in_ok-push_str.ensures.bytes
