use Rattle.std.proofs.Common.{◌∙◌, ap, map, subst}
use Rattle.std.proofs.lemmas.List.{take_all}
use Rattle.desk_tree_problems.specs.Rows.{blank_row}
use Rattle.desk_tree_reports.specs.Telling.{AddsRows}
use Rattle.desk_tree_reports.proofs.TellingLemmas.{adds_none, adds_item}
use Rattle.desk_tree_reports.proofs.telling.add_blanks.Goals as goal

pub loop-blank-init : goal.loop-blank-init
loop-blank-init c = adds_none c.args.form c.args.telling.now

pub loop-blank-preserved : goal.loop-blank-preserved
loop-blank-preserved c =
    adds_item c.args.form blank_row c.args.blanks.now c.loop-blank.blank-index c.blank-item.result
    c.in_ok-blank_row.field-0 c.args.telling.now c.loop-blank.telling c.add_row.new.self
    c.loop-blank-test.true c.loop-blank.invariant (c.in_ok-blank_row.ensures ∙ ap blank_row c.blank-item.is)
    c.in_ok-add_row.ensures

pub returns : goal.returns
returns c =
    subst (λ l. AddsRows c.args.form (map blank_row l) c.args.telling.now c.loop-blank.telling)
    (take_all c.loop-blank.blank-index c.args.blanks.now c.loop-blank-test.false)
    c.loop-blank.invariant
