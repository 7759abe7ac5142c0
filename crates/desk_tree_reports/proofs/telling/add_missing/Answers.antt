use Rattle.std.proofs.Common.{◌∙◌, ◌<◌, ◌≤◌, ap, arith, length, map, subst}
use Rattle.std.proofs.lemmas.List.{take_all}
use Rattle.desk_tree_lint.specs.Shown.{name_at}
use Rattle.desk_tree_problems.specs.Rows.{missing_row}
use Rattle.desk_tree_reports.specs.Telling.{AddsRows}
use Rattle.desk_tree_reports.proofs.TellingLemmas.{adds_none, adds_item}
use Rattle.desk_tree_reports.proofs.telling.add_missing.Goals as goal

pub loop-place-init : goal.loop-place-init
loop-place-init c = adds_none c.args.form c.args.telling.now

pub loop-place-preserved : goal.loop-place-preserved
loop-place-preserved c =
    let within : c.loop-place.place < length c.args.names.now =
    omega (arith, c.loop-place-test.true, c.len-place-end.ensures) in
    adds_item c.args.form missing_row c.args.names.now c.loop-place.place _
    (missing_row (name_at c.at.result)) c.args.telling.now c.loop-place.telling c.add_name.new.self
    within c.loop-place.invariant (ap missing_row c.at.ensures) c.in_ok-add_name.ensures

pub returns : goal.returns
returns c =
    let past : length c.args.names.now ≤ c.loop-place.place =
    omega (arith, c.loop-place-test.false, c.len-place-end.ensures) in
    subst (λ l. AddsRows c.args.form (map missing_row l) c.args.telling.now c.loop-place.telling)
    (take_all c.loop-place.place c.args.names.now past) c.loop-place.invariant
