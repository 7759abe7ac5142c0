use Rattle.std.proofs.Common.{◌≡◌, ◌++◌, ◌∷◌, [], drop, map}
use Rattle.desk_base.specs.TextSets.{has_text}
use Rattle.serde_json.specs.View.{items_view}
use Rattle.desk_spdx_json.specs.Elements.{element_text}
use Rattle.desk_spdx_json.specs.Kept.{kept_steps}
use Rattle.desk_spdx_json.specs.Parts.{element_by}
use Rattle.desk_spdx_json.specs.Values.{items_steps}
use Rattle.desk_spdx_json.proofs.parts.add_parts.Given as goal

-- what was added and what is still to come is everything
abbrev pub invariant-loop-i : goal.invariant-loop-i
invariant-loop-i l =
    let element = element_by (kept_steps (has_text l.idle)) l.part in
    map element_text l.elements.items
    ++ items_steps (λ place d. element place d ∷ []) l.at l.i (items_view (drop l.i l.list))
    ≡ map element_text l.initial.elements.items
    ++ items_steps (λ place d. element place d ∷ []) l.at 0 (items_view l.list)
