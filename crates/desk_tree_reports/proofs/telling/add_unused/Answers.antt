use Rattle.std.proofs.Common.{◌∙◌, ap, map, subst}
use Rattle.std.proofs.lemmas.List.{take_all}
use Rattle.desk_tree_problems.specs.Rows.{unused_row}
use Rattle.desk_tree_reports.specs.Telling.{AddsRows}
use Rattle.desk_tree_reports.proofs.TellingLemmas.{adds_none, adds_item}
use Rattle.desk_tree_reports.proofs.telling.add_unused.Goals as goal

pub loop-path-init : goal.loop-path-init
loop-path-init c = adds_none c.args.form c.args.telling.now

pub loop-path-preserved : goal.loop-path-preserved
loop-path-preserved c =
    adds_item c.args.form unused_row c.args.paths.now c.loop-path.path-index c.path-item.result
    c.in_ok-unused_row.field-0 c.args.telling.now c.loop-path.telling c.add_row.new.self
    c.loop-path-test.true c.loop-path.invariant (c.in_ok-unused_row.ensures ∙ ap unused_row (c.as_str.ensures ∙ c.path-item.is))
    c.in_ok-add_row.ensures

pub returns : goal.returns
returns c =
    subst (λ l. AddsRows c.args.form (map unused_row l) c.args.telling.now c.loop-path.telling)
    (take_all c.loop-path.path-index c.args.paths.now c.loop-path-test.false)
    c.loop-path.invariant
