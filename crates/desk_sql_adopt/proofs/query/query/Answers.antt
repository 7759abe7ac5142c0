use Rattle.std.proofs.Common.{rules}
use Rattle.sqlite.specs.Held.{state}
use Rattle.sqlite.specs.Values.{bound}
use Rattle.desk_sql_adopt.proofs.Asking.{answered, failed, never_rows}
use Rattle.sqlite.specs.State.{CommitsShowing}
use Rattle.desk_sql_layout.proofs.Causes.{failed_cause}
use Rattle.desk_sql_adopt.proofs.query.query.Goals as goal

pub returns-in-Ok-clause-read : goal.returns-in-Ok-clause-read
returns-in-Ok-clause-read g c = λ bare.
    answered c.args.sql.now (bound c.args.params.now) (state g.S.Store c.args.conn.now)
    (state g.S.Store c.query_all.new.self) bare
    (c.is_autocommit-settled.ensures.settled (search rules)) c.query_all.ensures.survives
    c.in-Ok.rows.items c.in-Ok.ensures.ok

pub returns-in-Err-clause-read : goal.returns-in-Err-clause-read
returns-in-Err-clause-read g c = λ bare.
    failed c.args.sql.now (bound c.args.params.now) (state g.S.Store c.args.conn.now)
    (state g.S.Store c.query_all.new.self) bare
    (c.is_autocommit-settled.ensures.settled (search rules)) c.query_all.ensures.survives
    c.in-Err.error c.in-Err.ensures.err

pub returns-in-Err-clause-cause : goal.returns-in-Err-clause-cause
returns-in-Err-clause-cause g c = λ asked.
    let sql = c.args.sql.now in
    let params = bound c.args.params.now in
    let old = state g.S.Store c.args.conn.now in
    let new = state g.S.Store c.query_all.new.self in
    rw c.fault_of.ensures (failed_cause sql params old new (CommitsShowing sql params old)
    c.query_all.ensures.survives asked c.in-Err.error c.in-Err.ensures.err)

pub returns-in-Err-clause-refused : goal.returns-in-Err-clause-refused
returns-in-Err-clause-refused g c = rw c.fault_of.ensures (never_rows c.in-Err.error)
