use Rattle.std.proofs.Common.{◌≡◌, ◌++◌, drop}
use Rattle.desk_base.specs.TextSets.{has_text}
use Rattle.serde_json.specs.View.{items_view}
use Rattle.desk_spdx_json.specs.Kept.{kept_relationship}
use Rattle.desk_spdx_json.specs.Values.{items_steps}
use Rattle.desk_spdx_json.proofs.parts.add_relationships.Given as goal

-- what was added and what is still to come is everything
abbrev pub invariant-loop-i : goal.invariant-loop-i
invariant-loop-i l =
    let each = kept_relationship (has_text l.idle) in
    l.steps ++ items_steps each l.at l.i (items_view (drop l.i l.list))
    ≡ l.initial.steps ++ items_steps each l.at 0 (items_view l.list)
