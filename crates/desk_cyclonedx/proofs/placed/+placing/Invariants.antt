use Rattle.std.proofs.Common.{◌≡◌, ◌++◌, ◌+◌, ◌*◌, drop, map}
use Rattle.serde_json.specs.View.{items_view}
use Rattle.desk_spdx_json.specs.Values.{items_steps}
use Rattle.desk_cyclonedx.specs.Placed.{placed_from, placed_text}
use Rattle.desk_cyclonedx.proofs.placed.+placing.Given as goal

abbrev pub decreases-add_placed : goal.decreases-add_placed
decreases-add_placed l = 3 * l.depth

abbrev pub decreases-add_all : goal.decreases-add_all
decreases-add_all l = 3 * l.depth + 1

abbrev pub decreases-add_listed : goal.decreases-add_listed
decreases-add_listed l = 3 * l.depth + 2

-- what was added and what is still to come is everything
abbrev pub invariant-add_all-loop-i : goal.invariant-add_all-loop-i
invariant-add_all-loop-i l =
    map placed_text l.found.items
    ++ items_steps (placed_from l.depth l.owner) l.at l.i (items_view (drop l.i l.list))
    ≡ map placed_text l.initial.found.items
    ++ items_steps (placed_from l.depth l.owner) l.at 0 (items_view l.list)
