use Rattle.std.proofs.Common.{◌≡◌, ◌++◌, take, map}
use Rattle.std.specs.List.{flat_map}
use Rattle.serde_json.specs.View.{view}
use Rattle.desk_spdx_json.specs.Members.{member_text}
use Rattle.desk_spdx_json.specs.Parts.{member_steps}
use Rattle.desk_spdx_json.proofs.parts.add_members.Given as goal

-- the members so far were added
abbrev pub invariant-loop-member : goal.invariant-loop-member
invariant-loop-member l = l.steps ≡ l.initial.steps
    ++ flat_map (member_steps l.at (view l.value)) (map member_text (take l.member-index l.members))
