use Rattle.sqlite.specs.Held.{state}
use Rattle.desk_sql_adopt.proofs.Asking.{shown_unchanged}
use Rattle.desk_sql_scan.proofs.Asked.{failed_inside}
use Rattle.desk_sql_scan.proofs.Causes.{failed_scan_inside}
use Rattle.desk_sql_scan.proofs.source.TransactionSource.query.Goals as goal

pub returns-in-Ok-clause-asked : goal.returns-in-Ok-clause-asked
returns-in-Ok-clause-asked g c = λ bare.
    let old = state g.S.Store c.args.self.now.conn.now in
    let new = state g.S.Store c.query_all.new.self.conn.now in (
      c.query_all.ensures.survives,
      λ clean. shown_unchanged _ _ old new bare c.in-Ok.rows.items (c.in-Ok.ensures.ok clean),
    )

pub returns-in-Err-clause-asked : goal.returns-in-Err-clause-asked
returns-in-Err-clause-asked g c = λ bare.
    let old = state g.S.Store c.args.self.now.conn.now in
    let new = state g.S.Store c.query_all.new.self.conn.now in
    failed_inside _ _ old new bare c.query_all.ensures.survives c.in-Err.error c.in-Err.ensures.err

pub returns-in-Err-clause-cause : goal.returns-in-Err-clause-cause
returns-in-Err-clause-cause g c = λ bare asked.
    rw c.fault_of.ensures (failed_scan_inside c.args.sql.now
    (state g.S.Store c.args.self.now.conn.now) (state g.S.Store c.query_all.new.self.conn.now) bare
    asked c.in-Err.error c.in-Err.ensures.err)
