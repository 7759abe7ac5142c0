use Rattle.std.proofs.Common.{◌≡◌, drop, map}
use Rattle.desk_spdx_json.specs.Members.{member_text}
use Rattle.desk_spdx_json.specs.Parts.{is_known}
use Rattle.desk_spdx_json.proofs.parts.is_known.Given as goal

-- the members that are left decide
abbrev pub invariant-loop-member : goal.invariant-loop-member
invariant-loop-member l = is_known (map member_text (drop l.member-index l.members)) l.key
    ≡ is_known (map member_text l.members) l.key
