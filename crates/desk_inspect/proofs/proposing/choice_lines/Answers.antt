use Rattle.std.specs.Result.{result_map_both}
use Rattle.desk_texts.specs.Right.{AreRight}
use Rattle.desk_wanting.proofs.SoFar.{fails}
use Rattle.desk_inspect.proofs.ProposingLemmas.{choices_end, choices_turn}
use Rattle.desk_inspect.proofs.proposing.choice_lines.Goals as goal

pub loop-release-preserved : goal.loop-release-preserved
loop-release-preserved g c =
    choices_turn AreRight c.args.document c.args.releases.now c.loop-release.release-index _ _
    c.release-item.result c.loop-release.text.items c.add_choices_for.new.text.items
    (result_map_both (λ choices. choices.items) (λ refusal. refusal) c.in_ok-found.found) _
    c.loop-release-test.true c.release-item.is c.loop-release.invariant c.in_ok-found.ensures.kept
    c.in_ok-found.ensures.found c.in_ok-add_choices_for.ensures

pub returns-in_err-found-clause-kept : goal.returns-in_err-found-clause-kept
returns-in_err-found-clause-kept g c =
    fails _ _ _ c.from_residual.result c.from_residual.ensures.0 c.loop-release.invariant.same
    c.in_err-found.ensures.kept

pub returns-in_err-add_choices_for-clause-kept : goal.returns-in_err-add_choices_for-clause-kept
returns-in_err-add_choices_for-clause-kept g c =
    fails _ _ _ c.from_residual-in_err-add_choices_for.result
    c.from_residual-in_err-add_choices_for.ensures.0 c.loop-release.invariant.same
    c.in_ok-found.ensures.kept.kept

pub returns-clause-found : goal.returns-clause-found
returns-clause-found g c =
    choices_end AreRight c.args.document c.args.releases.now c.loop-release.release-index _ _
    c.loop-release.text.items c.loop-release-test.false c.loop-release.invariant
