use Rattle.std.proofs.Common.{[], ap, refl, take_all, ◌∙◌}
use Rattle.std.specs.List.{flat_map}
use Rattle.desk_base.proofs.Lists.{joined_more}
use Rattle.desk_subcommands.specs.Filing.{outcome_line}
use Rattle.desk_views.proofs.wanting.lines_of.Goals as goal

pub loop-outcome-preserved : goal.loop-outcome-preserved
loop-outcome-preserved c =
    joined_more outcome_line c.args.outcomes.now c.loop-outcome.outcome-index c.outcome-item.result
    [] c.loop-outcome.text.items
    c.add_line.new.text.items (outcome_line c.outcome-item.result) c.loop-outcome-test.true
    c.outcome-item.is c.loop-outcome.invariant refl
    c.in_ok-add_line.ensures

pub returns : goal.returns
returns c =
    c.loop-outcome.invariant
    ∙ ap (flat_map outcome_line) (take_all c.loop-outcome.outcome-index c.args.outcomes.now
    c.loop-outcome-test.false)
