use Rattle.std.proofs.Common.{◌≡◌, ℕ, ◌≤◌, length}
use Rattle.json.specs.Json.{parse_map}
use Rattle.serde_json.specs.Data.{Items}
use Rattle.desk_json_object.specs.Kept.{joined, AreKept}
use Rattle.desk_json_object.specs.Taken.{items_at}
use Rattle.desk_json_object.proofs.Taking.{items_in}
use Rattle.desk_json_object.proofs.object.read_texts.Given as goal

abbrev pub invariant-items : goal.invariant-items
invariant-items l =
    (turns : ℕ) × (length l.reader ≤ turns) × (before : Items)
    × (items_at l.depth l.initial.reader
    ≡ parse_map (joined before) (items_in l.depth turns l.reader))
    × AreKept before l.texts
    × (length l.reader ≤ length l.initial.reader)

abbrev pub decreases-items : goal.decreases-items
decreases-items l = length l.reader
