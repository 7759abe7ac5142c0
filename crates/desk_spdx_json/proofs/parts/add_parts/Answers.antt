use Rattle.std.proofs.Common.{◌∙◌, ◌++◌, ◌∷◌, [], List, ap, ap₂, map, ℕ}
use Rattle.desk_base.specs.TextSets.{has_text}
use Rattle.serde_json.specs.Data.{Data}
use Rattle.serde_json.specs.View.{items_view, view}
use Rattle.std.proofs.lemmas.List.{map-append}
use Rattle.desk_spdx_json.specs.Elements.{ElementText, element_text}
use Rattle.desk_spdx_json.specs.Kept.{kept_steps}
use Rattle.desk_spdx_json.specs.Parts.{element_by}
use Rattle.desk_spdx_json.specs.Values.{items_steps}
use Rattle.desk_spdx_json.proofs.Added.{items_more}
use Rattle.desk_spdx_json.proofs.parts.add_parts.Goals as goal

pub loop-i-preserved : goal.loop-i-preserved
loop-i-preserved c =
    let element = element_by (kept_steps (has_text c.args.idle.now)) c.args.part in
    let each : List ℕ → Data → List ElementText = λ place d. element place d ∷ [] in
    let old = map element_text c.loop-i.elements.items in
    items_more each c.args.at.now c.args.list.now c.loop-i.i c.index-list-i.result
    old (map element_text c.push.new.self.items)
    (map element_text c.args.elements.now.items
    ++ items_steps each c.args.at.now 0 (items_view c.args.list.now))
    c.loop-i-test.true c.loop-i.invariant
    (ap (map element_text) c.in_ok-push.ensures.items
    ∙ map-append element_text c.loop-i.elements.items (c.in_ok-element_of.field-0 ∷ [])
    ∙ ap (λ e. old ++ e ∷ [])
    (c.in_ok-element_of.ensures
    ∙ ap₂ (λ (place : List ℕ) (d : Data). element place d) c.in_ok-place.ensures
    (ap view c.index-list-i.is)))
