use Rattle.sqlite.specs.Held.{state}
use Rattle.desk_sql_write.proofs.Inserts.{reading_added}
use Rattle.desk_sql_write.proofs.document.add_reading.Goals as goal

pub returns-clause-adds : goal.returns-clause-adds
returns-clause-adds g c =
    reading_added c.args.row.now (state g.S.Store c.args.tx.now.conn.now)
    (state g.S.Store c.execute.new.tx.conn.now) c.execute.result
    (rw c.reading_values.ensures at c.execute.ensures.ran)
    (rw c.reading_values.ensures at c.execute.ensures.into) c.execute.ensures.survives
