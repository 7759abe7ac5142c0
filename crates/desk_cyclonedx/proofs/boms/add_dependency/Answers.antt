use Rattle.std.proofs.Common.{◌∙◌, ◌++◌, List, Option, ap, codes, ℕ}
use Rattle.std.proofs.lemmas.Result.{on_ok_weaker}
use Rattle.serde_json.specs.Data.{Data}
use Rattle.serde_json.specs.Find.{get}
use Rattle.serde_json.specs.View.{view}
use Rattle.desk_spdx_json.specs.Steps.{StepText, member_at}
use Rattle.desk_spdx_json.specs.Values.{if_array, word_in}
use Rattle.desk_spdx_json.proofs.Added.{before}
use Rattle.desk_cyclonedx.specs.Boms.{dependency_head, target_steps}
use Rattle.desk_cyclonedx.specs.Names.{component_id}
use Rattle.desk_cyclonedx.proofs.boms.add_dependency.Goals as goal

pub returns : goal.returns
returns c ids set =
    let at = c.args.at.now in
    let d = view c.args.value.now in
    let own = component_id (word_in (codes "ref") d) in
    let there = member_at at (codes "dependsOn") in
    let listed = get (codes "dependsOn") d in
    let inner : List ℕ → List ℕ → Option Data → List StepText =
    λ left place found. c.add_dependency_head.new.steps
    ++ if_array (target_steps ids left) place found in
    on_ok_weaker c.add_depends_on.result (λ told.
    before c.args.steps.now (dependency_head at d) (if_array (target_steps ids own) there listed)
    c.in_ok-add_dependency_head.ensures
    (told ∙ ap (inner c.deref.result.now c.deref-2.result.now) c.get.ensures
    ∙ ap (λ left. inner left c.deref-2.result.now listed)
    (c.deref.ensures ∙ c.in_ok-left.ensures ∙ ap component_id c.word_in.ensures)
    ∙ ap (λ place. inner own place listed) (c.deref-2.ensures ∙ c.in_ok-place.ensures)))
    (c.add_depends_on.ensures ids set)
