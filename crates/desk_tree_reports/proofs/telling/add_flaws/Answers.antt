use Rattle.std.proofs.Common.{[], subst}
use Rattle.std.proofs.lemmas.List.{take_all}
use Rattle.desk_tree_problems.specs.Rows.{IsFlawRow}
use Rattle.desk_tree_reports.proofs.TellingLemmas.{AddsFlaws, adds_none, adds_flaw}
use Rattle.desk_tree_reports.proofs.telling.add_flaws.Goals as goal

pub loop-flaw-init : goal.loop-flaw-init
loop-flaw-init c = ([], tt, adds_none c.args.form c.args.telling.now)

pub loop-flaw-preserved : goal.loop-flaw-preserved
loop-flaw-preserved c =
    adds_flaw c.args.form c.args.flaws.now c.loop-flaw.flaw-index c.flaw-item.result
    c.in_ok-flaw_row.field-0 c.args.telling.now c.loop-flaw.telling c.add_row.new.self
    c.loop-flaw-test.true c.loop-flaw.invariant
    (subst (λ f. IsFlawRow f c.in_ok-flaw_row.field-0) c.flaw-item.is c.in_ok-flaw_row.ensures)
    c.in_ok-add_row.ensures

pub returns : goal.returns
returns c =
    subst (λ flaws. AddsFlaws c.args.form flaws c.args.telling.now c.loop-flaw.telling)
    (take_all c.loop-flaw.flaw-index c.args.flaws.now c.loop-flaw-test.false) c.loop-flaw.invariant
