use Rattle.std.proofs.Common.{subst}
use Rattle.std.proofs.lemmas.List.{take_all}
use Rattle.desk_tree_reports.specs.Telling.{AddsRows}
use Rattle.desk_tree_reports.proofs.TellingLemmas.{adds_none, adds_row}
use Rattle.desk_tree_reports.proofs.telling.add_rows.Goals as goal

pub loop-row-init : goal.loop-row-init
loop-row-init c = adds_none c.args.form c.args.telling.now

pub loop-row-preserved : goal.loop-row-preserved
loop-row-preserved c =
    adds_row c.args.form c.args.rows.now c.loop-row.row-index c.row-item.result c.row-item.result
    c.args.telling.now c.loop-row.telling c.add_row.new.self c.loop-row-test.true
    c.loop-row.invariant c.row-item.is c.in_ok-add_row.ensures

pub returns : goal.returns
returns c =
    subst (λ l. AddsRows c.args.form l c.args.telling.now c.loop-row.telling)
    (take_all c.loop-row.row-index c.args.rows.now c.loop-row-test.false) c.loop-row.invariant
