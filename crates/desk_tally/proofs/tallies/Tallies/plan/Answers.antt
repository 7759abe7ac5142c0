use Rattle.desk_tally.proofs.Plans.{planned}
use Rattle.desk_tally.proofs.Steps.{astray}
use Rattle.desk_tally.proofs.tallies.Tallies.plan.Goals as goal

pub returns-clause-leads : goal.returns-clause-leads
returns-clause-leads c = planned c.args.change.now c.args.place c.args.self.now c.step_of.new.self
    c.step_of.result c.step_of.ensures.stands c.step_of.ensures.tallies c.step_of.ensures.step

pub returns-clause-none : goal.returns-clause-none
returns-clause-none c = astray c.args.change.now c.args.place c.args.self.now c.step_of.result
    c.step_of.ensures.none
