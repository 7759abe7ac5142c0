use Rattle.std.proofs.Common.{◌≡◌, ◌++◌, drop}
use Rattle.desk_base.specs.TextSets.{has_text}
use Rattle.serde_json.specs.View.{items_view}
use Rattle.desk_spdx_json.specs.Kept.{kept_contained}
use Rattle.desk_spdx_json.specs.Values.{items_steps}
use Rattle.desk_spdx_json.proofs.contained.add_all_contained.Given as goal

-- what was added and what is still to come is everything
abbrev pub invariant-loop-i : goal.invariant-loop-i
invariant-loop-i l =
    let each = kept_contained (has_text l.idle) l.owner in
    l.steps ++ items_steps each l.at l.i (items_view (drop l.i l.list))
    ≡ l.initial.steps ++ items_steps each l.at 0 (items_view l.list)
