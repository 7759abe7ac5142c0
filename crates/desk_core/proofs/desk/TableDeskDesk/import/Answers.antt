use Rattle.desk_model.specs.declared.command.Command.TheVariants.{Import}
use Rattle.desk_core.proofs.AtHistory.{carries_out}
use Rattle.desk_core.proofs.desk.TableDeskDesk.import.Goals as goal

pub returns-clause-carries : goal.returns-clause-carries
returns-clause-carries g c = λ w right.
    carries_out g.S.Store.stands w (Import c.args.bytes c.args.profile)
    (g.S.Store.seen c.args.self.now.store) (g.S.Store.seen c.carry_import.new.store)
    c.carry_import.result (c.carry_import.ensures.decides w right)
