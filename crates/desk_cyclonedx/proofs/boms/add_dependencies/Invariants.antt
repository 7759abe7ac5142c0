use Rattle.std.proofs.Common.{◌≡◌, ◌++◌, drop, List, ℕ}
use Rattle.desk_base.specs.TextSets.{IsSetOf}
use Rattle.serde_json.specs.View.{items_view}
use Rattle.desk_spdx_json.specs.Values.{items_steps}
use Rattle.desk_cyclonedx.specs.Boms.{dependency_steps}
use Rattle.desk_cyclonedx.proofs.boms.add_dependencies.Given as goal

-- what was added and what is still to come is everything
abbrev pub invariant-loop-i : goal.invariant-loop-i
invariant-loop-i l = (ids : List (List ℕ)) → IsSetOf ids l.excluded
    → l.steps ++ items_steps (dependency_steps ids) l.at l.i (items_view (drop l.i l.list))
    ≡ l.initial.steps ++ items_steps (dependency_steps ids) l.at 0 (items_view l.list)
