use Rattle.std.proofs.Common.{◌≡◌, ℕ, ◌≤◌, length}
use Rattle.serde_json.specs.Data.{Members, no_members}
use Rattle.serde_json.specs.Events.{members_len}
use Rattle.desk_json_object.specs.Seen.{members_seen}
use Rattle.desk_json_object.specs.Spared.{spared_members}
use Rattle.desk_json_object.specs.Taken.{members_at}
use Rattle.desk_json_object.proofs.Taking.{members_in}
use Rattle.desk_json_object.proofs.object.read_members.Given as goal

abbrev pub invariant-members : goal.invariant-members
invariant-members l =
    (turns : ℕ) × (length l.reader ≤ turns) × (found : Members)
    × (members_at no_members 126 l.initial.reader ≡ members_in found 126 turns l.reader)
    × (spared_members found ≡ members_seen l.found.members.entries)
    × (members_len found ≤ l.most)
    × (length l.reader ≤ length l.initial.reader)

abbrev pub decreases-members : goal.decreases-members
decreases-members l = length l.reader
