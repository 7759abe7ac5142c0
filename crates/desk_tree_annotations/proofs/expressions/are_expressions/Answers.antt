use Rattle.std.proofs.Common.{◌∙◌, ◌<◌, ap, arith, length, sym}
use Rattle.desk_tree_annotations.proofs.RightLemmas.{same_test, all_go, all_stop}
use Rattle.desk_tree_annotations.proofs.expressions.are_expressions.Goals as goal

pub returns-then-not-is_read : goal.returns-then-not-is_read
returns-then-not-is_read c = λ r right.
    let listed = c.args.listed.now in
    let i = c.loop-place.place in
    let within : i < length listed =
    omega (arith, c.loop-place-test.true, c.len-place-end.ensures) in
    all_stop r.is_expression listed i _ within
    (ap r.is_expression (sym c.at.ensures)
    ∙ same_test r right _ c.in_ok-is_read.is_read c.in_ok-is_read.ensures
    ∙ c.if-not-is_read.true)
    ∙ c.loop-place.invariant r right

pub loop-place-preserved : goal.loop-place-preserved
loop-place-preserved c = λ r right.
    let listed = c.args.listed.now in
    let i = c.loop-place.place in
    let within : i < length listed =
    omega (arith, c.loop-place-test.true, c.len-place-end.ensures) in
    all_go r.is_expression listed i _ within
    (ap r.is_expression (sym c.at.ensures)
    ∙ same_test r right _ c.in_ok-is_read.is_read c.in_ok-is_read.ensures
    ∙ c.if-not-is_read.false)
    ∙ c.loop-place.invariant r right
