use Rattle.std.proofs.Common.{◌∙◌, ap, map, subst}
use Rattle.std.proofs.lemmas.List.{take_all}
use Rattle.desk_tree_problems.specs.Rows.{bare_row}
use Rattle.desk_tree_reports.specs.Telling.{AddsRows}
use Rattle.desk_tree_reports.proofs.TellingLemmas.{adds_none, adds_item}
use Rattle.desk_tree_reports.proofs.telling.add_bare.Goals as goal

pub loop-bare-init : goal.loop-bare-init
loop-bare-init c = adds_none c.args.form c.args.telling.now

pub loop-bare-preserved : goal.loop-bare-preserved
loop-bare-preserved c =
    adds_item c.args.form bare_row c.args.files.now c.loop-bare.bare-index c.bare-item.result
    c.in_ok-bare_row.field-0 c.args.telling.now c.loop-bare.telling c.add_row.new.self
    c.loop-bare-test.true c.loop-bare.invariant (c.in_ok-bare_row.ensures ∙ ap bare_row c.bare-item.is)
    c.in_ok-add_row.ensures

pub returns : goal.returns
returns c =
    subst (λ l. AddsRows c.args.form (map bare_row l) c.args.telling.now c.loop-bare.telling)
    (take_all c.loop-bare.bare-index c.args.files.now c.loop-bare-test.false)
    c.loop-bare.invariant
