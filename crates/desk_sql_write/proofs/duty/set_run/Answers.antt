use Rattle.sqlite.specs.Held.{state}
use Rattle.desk_sql_write.proofs.Updates.{run_set}
use Rattle.desk_sql_write.proofs.duty.set_run.Goals as goal

pub returns-clause-sets : goal.returns-clause-sets
returns-clause-sets g c =
    run_set c.args.first c.args.last c.args.to (state g.S.Store c.args.tx.now.conn.now)
    (state g.S.Store c.execute.new.tx.conn.now) c.execute.result
    (rw (c.number.ensures, c.number-2.ensures, c.duty_state.ensures) at c.execute.ensures.ran)
    (rw (c.number.ensures, c.number-2.ensures, c.duty_state.ensures) at c.execute.ensures.into)
    c.execute.ensures.survives
