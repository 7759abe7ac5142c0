use Rattle.std.proofs.Common.{[], ap}
use Rattle.std.specs.List.{flat_map}
use Rattle.desk_base.proofs.Lists.{joined_more}
use Rattle.desk_lists.proofs.Lists.{whole}
use Rattle.desk_answers.specs.Sets.{set_line, sets_shown}
use Rattle.desk_answers.proofs.sets.sets_text.Goals as goal

pub loop-set-preserved : goal.loop-set-preserved
loop-set-preserved c =
    joined_more set_line c.args.sets.now c.loop-set.set-index c.set-item.result
    [] c.loop-set.text.items
    c.add_set.new.text.items (set_line c.as_slice.result.now) c.loop-set-test.true c.set-item.is
    c.loop-set.invariant (ap set_line c.as_slice.ensures) c.in_ok-add_set.ensures

pub returns : goal.returns
unfolding sets_shown
returns c =
    whole (flat_map set_line) c.args.sets.now c.loop-set.set-index c.loop-set.text.items
    c.loop-set-test.false c.loop-set.invariant
