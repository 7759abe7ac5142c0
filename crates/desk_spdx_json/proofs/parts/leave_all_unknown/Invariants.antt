use Rattle.std.proofs.Common.{◌≡◌, ◌++◌, map}
use Rattle.serde_json.specs.View.{members_view}
use Rattle.desk_spdx_json.specs.Members.{member_text}
use Rattle.desk_spdx_json.specs.Parts.{unknown_steps}
use Rattle.desk_spdx_json.proofs.parts.leave_all_unknown.Given as goal

-- what was added and what is still to come is everything
abbrev pub invariant-loop-key : goal.invariant-loop-key
invariant-loop-key l =
    l.steps ++ unknown_steps (map member_text l.members) (members_view l.key-iterator)
    ≡ l.initial.steps ++ unknown_steps (map member_text l.members)
    (members_view l.fn.object.entries)
