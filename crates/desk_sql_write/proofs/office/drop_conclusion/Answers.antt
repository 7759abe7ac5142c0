use Rattle.sqlite.specs.Held.{state}
use Rattle.desk_sql_write.proofs.Deletes.{conclusion_dropped}
use Rattle.desk_sql_write.proofs.office.drop_conclusion.Goals as goal

pub returns-clause-drops : goal.returns-clause-drops
returns-clause-drops g c =
    conclusion_dropped c.args.document c.args.package_id.now
    (state g.S.Store c.args.tx.now.conn.now) (state g.S.Store c.execute.new.tx.conn.now)
    c.execute.result
    (rw (c.number.ensures, c.text.ensures) at c.execute.ensures.ran)
    (rw (c.number.ensures, c.text.ensures) at c.execute.ensures.into) c.execute.ensures.survives
