use Rattle.std.proofs.Common.{◌≡◌, ◌++◌, drop, List, ℕ}
use Rattle.desk_base.specs.TextSets.{IsSetOf}
use Rattle.serde_json.specs.View.{items_view}
use Rattle.desk_spdx_json.specs.Documents.{described_steps}
use Rattle.desk_spdx_json.specs.Values.{items_steps}
use Rattle.desk_spdx_json.proofs.documents.add_described_items.Given as goal

-- what was added and what is still to come is everything
abbrev pub invariant-loop-i : goal.invariant-loop-i
invariant-loop-i l = (ids : List (List ℕ)) → IsSetOf ids l.listed
    → l.steps ++ items_steps (described_steps ids) l.at l.i (items_view (drop l.i l.list))
    ≡ l.initial.steps ++ items_steps (described_steps ids) l.at 0 (items_view l.list)
