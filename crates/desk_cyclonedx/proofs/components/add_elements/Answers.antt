use Rattle.std.proofs.Common.{◌∙◌, ◌++◌, ◌∷◌, [], List, Option, ap, codes, map, option_and_then, ℕ}
use Rattle.std.proofs.lemmas.List.{map-append}
use Rattle.std.proofs.lemmas.Result.{on_ok_weaker}
use Rattle.serde_json.specs.Data.{Items}
use Rattle.serde_json.specs.Find.{as_array, get}
use Rattle.desk_spdx_json.specs.Elements.{ElementText, element_text}
use Rattle.desk_spdx_json.specs.Steps.{member_at}
use Rattle.desk_spdx_json.proofs.Added.{before}
use Rattle.desk_cyclonedx.specs.Components.{component_element, licence_elements}
use Rattle.desk_cyclonedx.specs.Placed.{placed_text}
use Rattle.desk_cyclonedx.proofs.components.add_elements.Goals as goal

pub returns : goal.returns
returns c =
    let p = placed_text c.args.placed.now in
    let old = map element_text c.args.elements.now.items in
    let mid = map element_text c.push.new.self.items in
    let place = member_at p.at (codes "licenses") in
    let found = option_and_then as_array (get (codes "licenses") p.value) in
    let inner : List ℕ → Option Items → List ElementText = λ there o. mid ++ licence_elements there o in
    on_ok_weaker c.add_licence_elements.result (λ told.
    before old (component_element p ∷ []) (licence_elements place found)
    (ap (map element_text) c.in_ok-push.ensures.items
    ∙ map-append element_text c.args.elements.now.items (c.in_ok-component_element.field-0 ∷ [])
    ∙ ap (λ e. old ++ e ∷ []) c.in_ok-component_element.ensures)
    (told ∙ ap (inner c.deref.result.now) c.licences_in.ensures
    ∙ ap (λ there. inner there found) (c.deref.ensures ∙ c.in_ok-place.ensures
    ∙ ap (λ at. member_at at (codes "licenses")) c.as_str.ensures.value)))
    c.add_licence_elements.ensures
