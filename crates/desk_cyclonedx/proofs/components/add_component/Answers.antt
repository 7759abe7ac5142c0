use Rattle.std.proofs.Common.{◌∙◌, ◌++◌, ap, ap₂, codes}
use Rattle.std.proofs.lemmas.Result.{on_ok_weaker}
use Rattle.serde_json.specs.Find.{get}
use Rattle.desk_spdx_json.specs.Steps.{member_at}
use Rattle.desk_spdx_json.proofs.Added.{before}
use Rattle.desk_cyclonedx.specs.Components.{head_steps, licence_steps, rest_steps, text_faults}
use Rattle.desk_cyclonedx.specs.Placed.{placed_text}
use Rattle.desk_cyclonedx.proofs.components.add_component.Goals as goal

pub returns : goal.returns
returns c =
    let p = placed_text c.args.placed.now in
    let at = c.as_str-at.ensures.value in
    let licences = licence_steps (member_at p.at (codes "licenses")) (get (codes "licenses") p.value) in
    on_ok_weaker c.add_rest.result (λ told.
    before c.args.steps.now (text_faults p.at p.value) (head_steps p ++ (licences ++ rest_steps p))
    (c.in_ok-add_text_faults.ensures
    ∙ ap (λ place. c.args.steps.now ++ text_faults place p.value) at)
    (before c.add_text_faults.new.steps (head_steps p) (licences ++ rest_steps p)
    c.in_ok-add_head.ensures
    (before c.add_head.new.steps licences (rest_steps p)
    (c.in_ok-add_licences.ensures
    ∙ ap₂ (λ place found. c.add_head.new.steps ++ licence_steps place found)
    (c.deref.ensures ∙ c.in_ok-place.ensures
    ∙ ap (λ place. member_at place (codes "licenses")) at) c.get.ensures)
    told)))
    c.add_rest.ensures
