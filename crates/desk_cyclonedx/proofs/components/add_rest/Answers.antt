use Rattle.std.proofs.Common.{◌∙◌, ◌++◌, ap, ap₂, codes}
use Rattle.std.proofs.lemmas.Result.{on_ok_weaker}
use Rattle.serde_json.specs.Find.{get}
use Rattle.desk_spdx_json.specs.Parts.{object_steps}
use Rattle.desk_spdx_json.specs.Steps.{member_at}
use Rattle.desk_spdx_json.proofs.Added.{before}
use Rattle.desk_cyclonedx.specs.Components.{component_members, nested_fault, tie_steps}
use Rattle.desk_cyclonedx.specs.Placed.{placed_text}
use Rattle.desk_cyclonedx.proofs.components.add_rest.Goals as goal

pub returns : goal.returns
returns c =
    let p = placed_text c.args.placed.now in
    let nested = nested_fault p.depth (member_at p.at (codes "components"))
    (get (codes "components") p.value) in
    on_ok_weaker c.add_tie.result (λ told.
    before c.args.steps.now (object_steps p.at component_members p.value) (nested ++ tie_steps p)
    (c.in_ok-add_object.ensures
    ∙ ap (λ at. c.args.steps.now ++ object_steps at component_members p.value)
    c.as_str-at.ensures.value)
    (before c.add_object.new.steps nested (tie_steps p)
    (c.in_ok-add_nested_fault.ensures
    ∙ ap₂ (λ place found. c.add_object.new.steps ++ nested_fault p.depth place found)
    (c.deref.ensures ∙ c.in_ok-place.ensures
    ∙ ap (λ at. member_at at (codes "components")) c.as_str-at.ensures.value)
    c.get-nested.ensures)
    told))
    c.add_tie.ensures
