use Rattle.sqlite.specs.Held.{state}
use Rattle.desk_sql_write.proofs.Updates.{release_frozen}
use Rattle.desk_sql_write.proofs.release.freeze_release.Goals as goal

pub returns-clause-sets : goal.returns-clause-sets
returns-clause-sets g c =
    release_frozen c.args.name.now c.args.revision (state g.S.Store c.args.tx.now.conn.now)
    (state g.S.Store c.execute.new.tx.conn.now) c.execute.result
    (rw (c.text.ensures, c.release_state.ensures, c.number.ensures) at c.execute.ensures.ran)
    (rw (c.text.ensures, c.release_state.ensures, c.number.ensures) at c.execute.ensures.into)
    c.execute.ensures.survives
