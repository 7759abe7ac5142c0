use Rattle.desk_wanting.proofs.SoFar.{fails}
use Rattle.desk_questions.proofs.listing.term_costs.Goals as goal

pub returns-in_err-cost-clause-kept : goal.returns-in_err-cost-clause-kept
returns-in_err-cost-clause-kept g c =
    fails _ _ _ c.from_residual.result c.from_residual.ensures.0 c.loop-term.invariant.same
    c.in_err-cost.ensures.kept

pub returns-in_err-push-clause-kept : goal.returns-in_err-push-clause-kept
returns-in_err-push-clause-kept g c =
    fails _ _ _ c.from_residual-in_err-push.result c.from_residual-in_err-push.ensures.0
    c.loop-term.invariant.same c.in_ok-cost.ensures.kept.kept
