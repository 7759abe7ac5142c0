use Rattle.std.proofs.Common.{◌∙◌, ◌++◌, List, ap, ap₂, ℕ}
use Rattle.serde_json.specs.Data.{Data}
use Rattle.serde_json.specs.View.{items_view, view}
use Rattle.desk_spdx_json.specs.Values.{items_steps}
use Rattle.desk_spdx_json.proofs.Added.{items_more}
use Rattle.desk_cyclonedx.specs.Boms.{dependency_steps}
use Rattle.desk_cyclonedx.proofs.boms.add_dependencies.Goals as goal

pub loop-i-preserved : goal.loop-i-preserved
loop-i-preserved c ids set =
    items_more (dependency_steps ids) c.args.at.now c.args.list.now c.loop-i.i
    c.index-list-i.result c.loop-i.steps c.add_dependency.new.steps
    (c.args.steps.now
    ++ items_steps (dependency_steps ids) c.args.at.now 0 (items_view c.args.list.now))
    c.loop-i-test.true (c.loop-i.invariant ids set)
    (c.in_ok-add_dependency.ensures ids set
    ∙ ap₂ (λ (place : List ℕ) (d : Data). c.loop-i.steps ++ dependency_steps ids place d)
    (c.deref.ensures ∙ c.in_ok-place.ensures) (ap view c.index-list-i.is))
