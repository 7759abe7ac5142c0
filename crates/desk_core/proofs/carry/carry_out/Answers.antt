use Rattle.desk_model.specs.Answers.{refused_alone}
use Rattle.desk_core.proofs.Chains.{minds_carried, decides_carried, alone_carried}
use Rattle.desk_core.proofs.carry.carry_out.Goals as goal

pub returns-clause-minds : goal.returns-clause-minds
returns-clause-minds g c =
    minds_carried g.S.Store.stands (g.S.Store.seen c.args.store.now)
    (g.S.Store.seen c.plan.new.store) (g.S.Store.seen c.carry_plan.new.store)
    c.in_ok-decided.decided c.carry_plan.result c.in_ok-decided.ensures.kept.0
    c.in_ok-decided.ensures.kept.1 c.carry_plan.ensures.carries

pub returns-clause-decides : goal.returns-clause-decides
returns-clause-decides g c = λ w right.
    decides_carried g.S.Store.stands w c.args.command.now (g.S.Store.seen c.args.store.now)
    (g.S.Store.seen c.plan.new.store) (g.S.Store.seen c.carry_plan.new.store)
    c.in_ok-decided.decided c.carry_plan.result c.in_ok-decided.ensures.kept.0
    c.in_ok-decided.ensures.kept.1 (c.in_ok-decided.ensures.plan w right)
    c.carry_plan.ensures.carries

pub returns-clause-alone : goal.returns-clause-alone
returns-clause-alone g c = λ w right.
    alone_carried g.S.Store.stands (g.S.Store.seen c.plan.new.store)
    (g.S.Store.seen c.carry_plan.new.store) (refused_alone w c.args.command.now)
    c.in_ok-decided.decided c.carry_plan.result (c.in_ok-decided.ensures.alone w right)
    c.carry_plan.ensures.carries
