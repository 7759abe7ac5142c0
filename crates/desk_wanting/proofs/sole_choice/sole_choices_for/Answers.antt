use Rattle.std.proofs.Common.{◌++◌, ap}
use Rattle.std.specs.List.{filter_map}
use Rattle.desk_access.proofs.Chains.{same_self}
use Rattle.desk_wanting.specs.Sole.{sole_choice_found}
use Rattle.desk_wanting.proofs.SoFar.{fails, option_end, option_turn}
use Rattle.desk_wanting.proofs.sole_choice.sole_choices_for.Goals as goal

pub loop-row-init : goal.loop-row-init
loop-row-init g c = record {
  same = same_self _;
  found = λ w right h t held. ap (λ found. found
      ++ filter_map (sole_choice_found w t c.args.release.now) c.args.packages.now)
      c.new-choices.ensures.items;
}

pub loop-row-preserved : goal.loop-row-preserved
loop-row-preserved g c =
    option_turn g.T.Texts.are_right _ _ _ _ _ _ _ _ c.loop-row-test.true c.row-item.is
    c.loop-row.invariant c.in_ok-choice.ensures.kept c.in_ok-choice.ensures.found
    c.in_ok-add_choice.ensures

pub returns-in_err-choice-clause-kept : goal.returns-in_err-choice-clause-kept
returns-in_err-choice-clause-kept g c =
    fails _ _ _ c.from_residual.result c.from_residual.ensures.0 c.loop-row.invariant.same
    c.in_err-choice.ensures.kept

pub returns-in_err-add_choice-clause-kept : goal.returns-in_err-add_choice-clause-kept
returns-in_err-add_choice-clause-kept g c =
    fails _ _ _ c.from_residual-in_err-add_choice.result c.from_residual-in_err-add_choice.ensures.0
    c.loop-row.invariant.same c.in_ok-choice.ensures.kept.kept

pub returns-clause-found : goal.returns-clause-found
returns-clause-found g c =
    option_end g.T.Texts.are_right _ _ _ _ _ c.loop-row-test.false c.loop-row.invariant
