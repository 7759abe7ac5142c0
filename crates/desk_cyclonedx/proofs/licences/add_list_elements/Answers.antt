use Rattle.std.proofs.Common.{◌∙◌, ◌++◌, List, ap, ap₂, map, ℕ}
use Rattle.serde_json.specs.Data.{Data}
use Rattle.serde_json.specs.View.{items_view, view}
use Rattle.desk_spdx_json.specs.Elements.{element_text}
use Rattle.desk_spdx_json.specs.Values.{items_steps}
use Rattle.desk_spdx_json.proofs.Added.{items_more}
use Rattle.desk_cyclonedx.specs.Licences.{item_elements}
use Rattle.desk_cyclonedx.proofs.licences.add_list_elements.Goals as goal

pub loop-i-preserved : goal.loop-i-preserved
loop-i-preserved c =
    let old = map element_text c.loop-i.elements.items in
    items_more (item_elements) c.args.at.now c.args.list.now c.loop-i.i c.index-list-i.result old
    (map element_text c.add_item_element.new.elements.items)
    (map element_text c.args.elements.now.items ++ items_steps (item_elements) c.args.at.now 0 (items_view c.args.list.now))
    c.loop-i-test.true c.loop-i.invariant
    (c.in_ok-add_item_element.ensures ∙ ap₂ (λ (place : List ℕ) (d : Data). old ++ item_elements place d)
    (c.deref.ensures ∙ c.in_ok-place.ensures)
    (ap view c.index-list-i.is))
