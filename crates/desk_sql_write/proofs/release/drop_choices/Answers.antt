use Rattle.sqlite.specs.Held.{state}
use Rattle.desk_sql_write.proofs.Deletes.{choices_dropped}
use Rattle.desk_sql_write.proofs.release.drop_choices.Goals as goal

pub returns-clause-drops : goal.returns-clause-drops
returns-clause-drops g c =
    choices_dropped c.args.release.now c.args.document c.args.package_id.now
    (state g.S.Store c.args.tx.now.conn.now) (state g.S.Store c.execute.new.tx.conn.now)
    c.execute.result
    (rw (c.text.ensures, c.number.ensures, c.text-2.ensures) at c.execute.ensures.ran)
    (rw (c.text.ensures, c.number.ensures, c.text-2.ensures) at c.execute.ensures.into)
    c.execute.ensures.survives
