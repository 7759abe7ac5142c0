use Rattle.std.proofs.Common.{◌∙◌, ◌++◌, ap, codes, map, subst}
use Rattle.std.proofs.lemmas.Result.{on_ok_weaker}
use Rattle.desk_base.specs.Borrowed.{texts}
use Rattle.desk_base.specs.TextSets.{IsSetOf}
use Rattle.serde_json.specs.Find.{get}
use Rattle.serde_json.specs.View.{view}
use Rattle.desk_spdx_json.specs.Elements.{merged}
use Rattle.desk_spdx_json.specs.Values.{if_array}
use Rattle.desk_spdx_json.proofs.Added.{before}
use Rattle.desk_cyclonedx.specs.Boms.{dependency_steps}
use Rattle.desk_cyclonedx.specs.Components.{elements_of, excluded_ids}
use Rattle.desk_cyclonedx.specs.Placed.{all_placed, placed_text}
use Rattle.desk_cyclonedx.proofs.boms.add_parts.Goals as goal

pub returns : goal.returns
returns c =
    let d = view c.args.value.now in
    let ids = excluded_ids (all_placed d) in
    let ties = if_array (dependency_steps ids) (codes "/dependencies") (get (codes "dependencies") d) in
    on_ok_weaker c.add_dependencies_in.result (λ told.
    before c.args.steps.now (merged (elements_of (all_placed d))) ties
    (c.in_ok-add_components.ensures
    ∙ ap (λ ps. c.args.steps.now ++ merged (elements_of ps))
    (ap (map placed_text) c.as_slice.ensures.value ∙ c.in_ok-placed.ensures))
    (told ∙ ap (λ found. c.add_components.new.steps
    ++ if_array (dependency_steps ids) (codes "/dependencies") found) c.get-found.ensures))
    (c.add_dependencies_in.ensures ids
    (subst (λ listed. IsSetOf listed c.in_ok-excluded-2.excluded)
    (ap texts c.as_slice-3.ensures.value ∙ c.in_ok-excluded.ensures
    ∙ ap excluded_ids (ap (map placed_text) c.as_slice-2.ensures.value ∙ c.in_ok-placed.ensures))
    c.in_ok-excluded-2.ensures))
