use Rattle.std.proofs.Common.{map}
use Rattle.desk_lists.specs.Held.{duties_held}
use Rattle.desk_lists.specs.Releases.{release_line}
use Rattle.desk_lists.proofs.Lists.{made_more, whole}
use Rattle.desk_lists.proofs.release.lines_in_turn.Goals as goal

pub loop-release-preserved : goal.loop-release-preserved
loop-release-preserved c =
    made_more (release_line (duties_held c.args.held.now.rows.items)) c.args.rows.now
    c.loop-release.release-index c.release-item.result
    c.loop-release.lines.items c.push.new.self.items c.in_ok-release_line.field-0
    c.loop-release-test.true c.release-item.is
    c.loop-release.invariant c.in_ok-release_line.ensures c.in_ok-push.ensures.items

pub returns : goal.returns
returns c =
    whole (map (release_line (duties_held c.args.held.now.rows.items))) c.args.rows.now
    c.loop-release.release-index c.loop-release.lines.items
    c.loop-release-test.false c.loop-release.invariant
