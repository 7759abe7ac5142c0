use Rattle.std.proofs.Common.{◌∙◌, ◌++◌, List, ap, ap₂, ℕ}
use Rattle.desk_base.specs.TextSets.{has_text}
use Rattle.serde_json.specs.Data.{Data}
use Rattle.serde_json.specs.View.{items_view, view}
use Rattle.desk_spdx_json.specs.Kept.{kept_relationship}
use Rattle.desk_spdx_json.specs.Values.{items_steps}
use Rattle.desk_spdx_json.proofs.Added.{items_more}
use Rattle.desk_spdx_json.proofs.parts.add_relationships.Goals as goal

pub loop-i-preserved : goal.loop-i-preserved
loop-i-preserved c =
    let steps = kept_relationship (has_text c.args.idle.now) in
    items_more steps c.args.at.now c.args.list.now c.loop-i.i c.index-list-i.result c.loop-i.steps
    c.add_kept_relationship.new.steps
    (c.args.steps.now ++ items_steps steps c.args.at.now 0 (items_view c.args.list.now))
    c.loop-i-test.true c.loop-i.invariant
    (c.in_ok-add_kept_relationship.ensures ∙ ap₂ (λ (place : List ℕ) (d : Data). c.loop-i.steps ++ steps place d)
    (c.deref.ensures ∙ c.in_ok-place.ensures)
    (ap view c.index-list-i.is))
