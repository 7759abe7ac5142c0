use Rattle.serde_json.specs.View.{view}
use Rattle.desk_spdx_json.specs.Members.{member_text}
use Rattle.desk_spdx_json.specs.Parts.{member_steps}
use Rattle.desk_base.proofs.Lists.{mapped_more}
use Rattle.desk_spdx_json.proofs.parts.add_members.Goals as goal

pub loop-member-preserved : goal.loop-member-preserved
loop-member-preserved c =
    mapped_more (member_steps c.args.at.now (view c.args.value.now)) member_text c.args.members.now
    c.loop-member.member-index _ c.args.steps.now
    c.loop-member.steps c.add_member.new.steps c.loop-member-test.true c.loop-member.invariant
    c.in_ok-add_member.ensures
