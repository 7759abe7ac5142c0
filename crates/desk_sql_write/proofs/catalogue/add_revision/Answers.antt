use Rattle.sqlite.specs.Held.{state}
use Rattle.desk_sql_write.proofs.Inserts.{revision_added}
use Rattle.desk_sql_write.proofs.catalogue.add_revision.Goals as goal

pub returns-clause-adds : goal.returns-clause-adds
returns-clause-adds g c =
    revision_added c.args.row.now (state g.S.Store c.args.tx.now.conn.now)
    (state g.S.Store c.execute.new.tx.conn.now) c.execute.result
    (rw c.revision_values.ensures at c.execute.ensures.ran)
    (rw c.revision_values.ensures at c.execute.ensures.into) c.execute.ensures.survives
