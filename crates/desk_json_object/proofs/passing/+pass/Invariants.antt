use Rattle.std.proofs.Common.{◌≡◌, ℕ, ◌+◌, ◌*◌, ◌≤◌, length}
use Rattle.json.specs.Json.{parse_map}
use Rattle.serde_json.specs.Data.{Items, Members}
use Rattle.desk_json_object.specs.Taken.{items_at, members_at}
use Rattle.desk_json_object.proofs.Taking.{items_in, members_in}
use Rattle.desk_json_object.proofs.passing.+pass.Given as goal

abbrev pub decreases-pass_rest : goal.decreases-pass_rest
decreases-pass_rest l = 3 * l.depth

abbrev pub decreases-pass_value : goal.decreases-pass_value
decreases-pass_value l = 3 * l.depth + 1

abbrev pub decreases-pass_items : goal.decreases-pass_items
decreases-pass_items l = 3 * l.depth + 2

abbrev pub decreases-pass_members : goal.decreases-pass_members
decreases-pass_members l = 3 * l.depth + 2

abbrev pub invariant-pass_items-items : goal.invariant-pass_items-items
invariant-pass_items-items l =
    (turns : ℕ) × (length l.reader ≤ turns) × (before : Items → Items)
    × (items_at l.depth l.initial.reader ≡ parse_map before (items_in l.depth turns l.reader))
    × (length l.reader ≤ length l.initial.reader)

abbrev pub decreases-pass_items-items : goal.decreases-pass_items-items
decreases-pass_items-items l = length l.reader

abbrev pub invariant-pass_members-members : goal.invariant-pass_members-members
invariant-pass_members-members l =
    (turns : ℕ) × (length l.reader ≤ turns)
    × ((before : Members) → (found : Members)
    × (members_at before l.depth l.initial.reader ≡ members_in found l.depth turns l.reader))
    × (length l.reader ≤ length l.initial.reader)

abbrev pub decreases-pass_members-members : goal.decreases-pass_members-members
decreases-pass_members-members l = length l.reader
