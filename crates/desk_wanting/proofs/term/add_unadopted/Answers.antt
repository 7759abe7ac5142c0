use Rattle.std.proofs.Common.{refl}
use Rattle.desk_access.proofs.Chains.{same_self}
use Rattle.desk_wanting.proofs.SoFar.{fails, option_end, option_turn}
use Rattle.desk_wanting.proofs.term.add_unadopted.Goals as goal

pub loop-term-init : goal.loop-term-init
loop-term-init g c = record { same = same_self _; found = λ w right h t held. refl }

pub loop-term-preserved : goal.loop-term-preserved
loop-term-preserved g c =
    option_turn g.T.Texts.are_right _ _ _ _ _ _ _ _ c.loop-term-test.true c.term-item.is
    c.loop-term.invariant c.in_ok-refusal.ensures.kept c.in_ok-refusal.ensures.found
    c.in_ok-add_refusal.ensures

pub returns-in_err-refusal-clause-kept : goal.returns-in_err-refusal-clause-kept
returns-in_err-refusal-clause-kept g c =
    fails _ _ _ c.from_residual.result c.from_residual.ensures.0 c.loop-term.invariant.same
    c.in_err-refusal.ensures.kept

pub returns-in_err-add_refusal-clause-kept : goal.returns-in_err-add_refusal-clause-kept
returns-in_err-add_refusal-clause-kept g c =
    fails _ _ _ c.from_residual-in_err-add_refusal.result
    c.from_residual-in_err-add_refusal.ensures.0 c.loop-term.invariant.same
    c.in_ok-refusal.ensures.kept.kept

pub returns-clause-found : goal.returns-clause-found
returns-clause-found g c =
    option_end g.T.Texts.are_right _ _ _ _ _ c.loop-term-test.false c.loop-term.invariant
