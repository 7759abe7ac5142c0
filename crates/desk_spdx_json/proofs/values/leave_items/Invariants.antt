use Rattle.std.proofs.Common.{◌≡◌, ◌++◌, drop}
use Rattle.serde_json.specs.View.{items_view}
use Rattle.desk_spdx_json.specs.Values.{left_items}
use Rattle.desk_spdx_json.proofs.values.leave_items.Given as goal

-- what was added and what is still to come is everything
abbrev pub invariant-loop-value : goal.invariant-loop-value
invariant-loop-value l = l.steps ++ left_items l.kind (items_view (drop l._value-index l.list))
    ≡ l.initial.steps ++ left_items l.kind (items_view l.list)
