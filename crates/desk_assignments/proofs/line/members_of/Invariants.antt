use Rattle.std.proofs.Common.{◌≡◌, drop}
use Rattle.serde_json.specs.View.{members_view}
use Rattle.desk_assignments.specs.Words.{members_from, members_in}
use Rattle.desk_assignments.proofs.line.members_of.Given as goal

abbrev pub invariant-loop-place : goal.invariant-loop-place
invariant-loop-place l = members_from l.place (members_view l.members.entries)
    (drop l.place l.operands) ≡ members_in l.fn.verb l.word l.operands
