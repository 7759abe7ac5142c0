use Rattle.std.proofs.Common.{◌≡◌, ◌++◌, drop, map}
use Rattle.serde_json.specs.View.{items_view}
use Rattle.desk_spdx_json.specs.Elements.{element_text}
use Rattle.desk_spdx_json.specs.Values.{items_steps}
use Rattle.desk_cyclonedx.specs.Licences.{item_elements}
use Rattle.desk_cyclonedx.proofs.licences.add_list_elements.Given as goal

-- what was added and what is still to come is everything
abbrev pub invariant-loop-i : goal.invariant-loop-i
invariant-loop-i l = map element_text l.elements.items ++ items_steps (item_elements) l.at l.i (items_view (drop l.i l.list))
    ≡ map element_text l.initial.elements.items ++ items_steps (item_elements) l.at 0 (items_view l.list)
