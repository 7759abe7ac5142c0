use Rattle.std.proofs.Common.{◌∙◌, ◌++◌, List, ap, ap₂, ℕ}
use Rattle.serde_json.specs.Data.{Data}
use Rattle.serde_json.specs.View.{items_view, view}
use Rattle.desk_spdx_json.specs.Values.{items_steps}
use Rattle.desk_spdx_json.proofs.Added.{items_more}
use Rattle.desk_cyclonedx.specs.Licences.{item_steps}
use Rattle.desk_cyclonedx.proofs.licences.add_items.Goals as goal

pub loop-i-preserved : goal.loop-i-preserved
loop-i-preserved c =
    let old = c.loop-i.steps in
    items_more (item_steps c.args.alone) c.args.at.now c.args.list.now c.loop-i.i c.index-list-i.result old
    (c.add_item.new.steps)
    (c.args.steps.now ++ items_steps (item_steps c.args.alone) c.args.at.now 0 (items_view c.args.list.now))
    c.loop-i-test.true c.loop-i.invariant
    (c.in_ok-add_item.ensures ∙ ap₂ (λ (place : List ℕ) (d : Data). old ++ item_steps c.args.alone place d)
    (c.deref.ensures ∙ c.in_ok-place.ensures)
    (ap view c.index-list-i.is))
