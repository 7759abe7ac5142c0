use Rattle.desk_core.proofs.AtHistory.{carries_out}
use Rattle.desk_core.proofs.desk.TableDeskDesk.apply.Goals as goal

pub returns-clause-carries : goal.returns-clause-carries
returns-clause-carries g c = λ w right.
    carries_out g.S.Store.stands w c.args.command.now (g.S.Store.seen c.args.self.now.store)
    (g.S.Store.seen c.carry_out.new.store) c.carry_out.result (c.carry_out.ensures.decides w right)
