use Rattle.std.proofs.Common.{ℕ, Option, List, arith}
use Rattle.desk_expr.specs.declared.term.Term.{Term}
use Rattle.desk_alts.proofs.CostLemmas.{costs_more, sum_more}
use Rattle.desk_alts.proofs.costs.price.Goals as goal

pub loop-term-preserved : goal.loop-term-preserved
loop-term-preserved g c =
    let cost : Term → Option ℕ = g.C.Cost.cost_of c.args.cost.now in
    let terms : List Term = c.terms-terms.result.now in
    record {
      costs = costs_more cost terms c.loop-term.term-index c.term-item.result c.in_ok-sum.field-0
          c.loop-term-test.true c.term-item.is c.in_ok-sum.ensures.value
          c.loop-term.invariant.costs;
      sum = sum_more cost terms c.loop-term.term-index c.term-item.result c.loop-term.sum
          c.in_ok-sum.field-0 c.loop-term-test.true c.term-item.is c.in_ok-sum.ensures.value
          c.loop-term.invariant.sum;
      few = c.loop-term.invariant.few;
      bound = omega (arith, c.loop-term.invariant.bound, c.in_ok-sum.ensures.bound);
    }
