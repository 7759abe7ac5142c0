use Rattle.std.proofs.Common.{◌≡◌, ◌++◌, drop}
use Rattle.serde_json.specs.View.{items_view}
use Rattle.desk_spdx_json.specs.Values.{items_steps}
use Rattle.desk_cyclonedx.specs.Licences.{item_steps}
use Rattle.desk_cyclonedx.proofs.licences.add_items.Given as goal

-- what was added and what is still to come is everything
abbrev pub invariant-loop-i : goal.invariant-loop-i
invariant-loop-i l = l.steps ++ items_steps (item_steps l.alone) l.at l.i (items_view (drop l.i l.list))
    ≡ l.initial.steps ++ items_steps (item_steps l.alone) l.at 0 (items_view l.list)
