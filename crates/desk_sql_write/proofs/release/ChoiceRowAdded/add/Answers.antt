use Rattle.sqlite.specs.Held.{state}
use Rattle.desk_sql_write.proofs.Inserts.{choice_added}
use Rattle.desk_sql_write.proofs.release.ChoiceRowAdded.add.Goals as goal

pub returns-clause-adds : goal.returns-clause-adds
returns-clause-adds g c =
    choice_added c.args.self.now (state g.S.Store c.args.tx.now.conn.now)
    (state g.S.Store c.execute.new.tx.conn.now) c.execute.result
    (rw c.choice_values.ensures at c.execute.ensures.ran)
    (rw c.choice_values.ensures at c.execute.ensures.into) c.execute.ensures.survives
