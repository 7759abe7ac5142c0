use Rattle.std.proofs.Common.{rules}
use Rattle.sqlite.specs.Held.{state}
use Rattle.desk_sql_adopt.proofs.Asking.{failed, shown_unchanged, still}
use Rattle.desk_sql_scan.proofs.Asked.{spared_outside}
use Rattle.desk_sql_scan.proofs.Causes.{failed_scan}
use Rattle.desk_sql_scan.proofs.source.ConnectionSource.query.Goals as goal

pub returns-in-Ok-clause-asked : goal.returns-in-Ok-clause-asked
returns-in-Ok-clause-asked g c = λ bare.
    let old = state g.S.Store c.args.self.now in
    let new = state g.S.Store c.query_all.new.self in (
      still _ _ old new bare (c.is_autocommit-settled.ensures.settled (search rules))
          c.query_all.ensures.survives,
      λ clean. shown_unchanged _ _ old new bare c.in-Ok.rows.items (c.in-Ok.ensures.ok clean),
    )

pub returns-in-Err-clause-asked : goal.returns-in-Err-clause-asked
returns-in-Err-clause-asked g c = λ bare.
    let old = state g.S.Store c.args.self.now in
    let new = state g.S.Store c.query_all.new.self in
    spared_outside old new (failed _ _ old new bare
    (c.is_autocommit-settled.ensures.settled (search rules)) c.query_all.ensures.survives
    c.in-Err.error c.in-Err.ensures.err)

pub returns-in-Err-clause-cause : goal.returns-in-Err-clause-cause
returns-in-Err-clause-cause g c = λ bare asked. rw c.fault_of.ensures
    (failed_scan c.args.sql.now (state g.S.Store c.args.self.now)
    (state g.S.Store c.query_all.new.self) asked c.in-Err.error c.in-Err.ensures.err)
