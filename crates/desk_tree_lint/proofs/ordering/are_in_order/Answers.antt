use Rattle.std.proofs.Common.{◌≡◌, ◌∙◌, arith, sym, Less, nat_cmp}
use Rattle.std.specs.Cmp.Lexicographic.{slice_cmp}
use Rattle.desk_model.proofs.Orders.{less_by}
use Rattle.desk_tree_lint.proofs.OrderLemmas.{climbed, climbs_more}
use Rattle.desk_tree_lint.proofs.ordering.are_in_order.Goals as goal

pub loop-place-init : goal.loop-place-init
loop-place-init c = λ k within. absurd (omega (arith, within))

pub loop-place-preserved : goal.loop-place-preserved
loop-place-preserved c =
    let less : slice_cmp nat_cmp c.at-last.result.now c.at-next.result.now ≡ Less =
    less_by _ (sym c.is_below.ensures ∙ c.if-not-is_below.false) in
    climbs_more c.args.keys.now c.loop-place.place c.loop-place.invariant
    ((λ j. slice_cmp nat_cmp (sym c.at-last.ensures j) (sym c.at-next.ensures j)) ∙ less)

pub returns : goal.returns
returns c = λ is. climbed c.args.keys.now
    (λ k within. c.loop-place.invariant k
    (omega (arith, within, c.loop-place-test.false, c.len-place-end.ensures)))
