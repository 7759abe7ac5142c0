use Rattle.std.proofs.Common.{rules}
use Rattle.sqlite.specs.Held.{state}
use Rattle.sqlite.specs.State.{CommitsShowing}
use Rattle.sqlite.specs.Values.{bound}
use Rattle.desk_sql_layout.proofs.Calls.{failed, answered}
use Rattle.desk_sql_layout.proofs.Causes.{failed_cause}
use Rattle.desk_sql_layout.proofs.query.query.Goals as goal

pub returns-in-Ok : goal.returns-in-Ok
returns-in-Ok g c =
    let shown = c.in-Ok.ensures.ok in
    record {
      ok = λ plain. (
        answered c.args.sql.now (bound c.args.params.now) (state g.S.Store c.args.conn.now)
            (state g.S.Store c.query_all.new.self) plain c.query_all.ensures.survives
            c.in-Ok.rows.items shown,
        shown,
      );
      err = λ plain. tt;
      cause = λ asked. tt;
      limit = search rules;
      mode = search rules;
    }

pub returns-in-Err : goal.returns-in-Err
returns-in-Err g c =
    let sql = c.args.sql.now in
    let params = bound c.args.params.now in
    let old = state g.S.Store c.args.conn.now in
    let new = state g.S.Store c.query_all.new.self in
    let survives = c.query_all.ensures.survives in
    record {
      ok = λ plain. tt;
      err = λ plain. failed sql params old new plain survives c.in-Err.error c.in-Err.ensures.err;
      cause = λ asked.
          rw c.fault_of.ensures
          (failed_cause sql params old new (CommitsShowing sql params old) survives asked
          c.in-Err.error c.in-Err.ensures.err);
      limit = search rules;
      mode = search rules;
    }
