use Rattle.sqlite.specs.Held.{state}
use Rattle.desk_sql_write.proofs.Deletes.{choices_dropped_in}
use Rattle.desk_sql_write.proofs.release.drop_choices_in.Goals as goal

pub returns-clause-drops : goal.returns-clause-drops
returns-clause-drops g c =
    choices_dropped_in c.args.release.now (state g.S.Store c.args.tx.now.conn.now)
    (state g.S.Store c.execute.new.tx.conn.now) c.execute.result
    (rw c.text.ensures at c.execute.ensures.ran) (rw c.text.ensures at c.execute.ensures.into)
    c.execute.ensures.survives
