use Rattle.std.proofs.Common.{◌≡◌, refl, rules, subst, sym}
use Rattle.sqlite.specs.Held.{state}
use Rattle.sqlite.specs.State.{HasCleanDisk}
use Rattle.desk_sql_layout.proofs.Clean.{clean_before}
use Rattle.desk_snapshot.specs.declared.fault.AuditReport.TheVariants.{Sound, Unsound}
use Rattle.desk_sql_migrate.specs.Migrating.{IsKeptBeside}
use Rattle.desk_sql_migrate.proofs.Ending.{err_leaves}
use Rattle.desk_sql_migrate.proofs.Transacting.{committed_since, dropped_since, failed_since}
use Rattle.desk_sql_migrate.proofs.Transacting.{left_since, spared_since, unsound_since}
use Rattle.desk_sql_migrate.proofs.migrate.write.Goals as goal

pub returns-in_err-found-clause-left : goal.returns-in_err-found-clause-left
returns-in_err-found-clause-left g c =
    err_leaves c.args.version (state g.S.Store c.args.conn.now) (state g.S.Store c.conn-1.given.0)
    c.from_residual.result c.from_residual.ensures.0
    (spared_since g.S.Store c.args.conn.now c.prepare.new.tx.conn.now c.transaction-tx.ensures.begun
    (c.is_autocommit-settled.ensures.settled (search rules)) c.prepare.ensures.survives
    c.drop-tx.new.self.0 c.conn-1.given.0 (search rules) c.in_err-found.ensures.prepared
    c.drop-tx.ensures.survives c.drop-tx.ensures.undone)

pub returns-in-Ok-clause-ends : goal.returns-in-Ok-clause-ends
returns-in-Ok-clause-ends g c = committed_since g.S.Store c.args.conn.now c.prepare.new.tx.conn.now
    c.transaction-tx.ensures.begun (c.is_autocommit-settled.ensures.settled (search rules))
    c.prepare.ensures.survives c.commit.new.self.0 c.conn-in-Sound-1.given.0 (search rules)
    (λ is. (c.schema-live.ensures.live is).0) c.args.version Sound (rw c.in-Sound.is at c.in_ok-found.ensures.prepared) refl
    c.commit.ensures.survives (λ clean. (c.in-Ok.ensures.ok clean).1)

pub returns-in-Ok-clause-left : goal.returns-in-Ok-clause-left
returns-in-Ok-clause-left g c = left_since g.S.Store c.args.conn.now c.prepare.new.tx.conn.now
    c.transaction-tx.ensures.begun (c.is_autocommit-settled.ensures.settled (search rules))
    c.prepare.ensures.survives c.commit.new.self.0 c.conn-in-Sound-1.given.0 (search rules)
    (λ is. (c.schema-live.ensures.live is).0) c.args.version Sound (rw c.in-Sound.is at c.in_ok-found.ensures.prepared) refl
    c.commit.ensures.survives

pub returns-in-Err-clause-left : goal.returns-in-Err-clause-left
returns-in-Err-clause-left g c = failed_since g.S.Store c.args.conn.now c.prepare.new.tx.conn.now
    c.transaction-tx.ensures.begun (c.is_autocommit-settled.ensures.settled (search rules))
    c.prepare.ensures.survives c.commit.new.self.0 c.conn-in-Sound-1.given.0 (search rules)
    (λ is. (c.schema-live.ensures.live is).0) c.args.version Sound (rw c.in-Sound.is at c.in_ok-found.ensures.prepared) refl
    c.commit.ensures.survives c.in-Err.error c.in-Err.ensures.err

pub returns-in-Unsound-clause-ends : goal.returns-in-Unsound-clause-ends
returns-in-Unsound-clause-ends g c = unsound_since g.S.Store c.args.conn.now
    c.prepare.new.tx.conn.now c.transaction-tx.ensures.begun
    (c.is_autocommit-settled.ensures.settled (search rules)) c.prepare.ensures.survives
    c.rollback.new.self.0 c.conn-in-Unsound-1.given.0 (search rules)
    (λ is. (c.schema-live.ensures.live is).0) c.args.version
    (Unsound c.in-Unsound.fault) (rw c.in-Unsound.is at c.in_ok-found.ensures.prepared) refl
    c.rollback.ensures.survives

pub returns-in-Unsound-clause-left : goal.returns-in-Unsound-clause-left
returns-in-Unsound-clause-left g c = dropped_since g.S.Store c.args.conn.now
    c.prepare.new.tx.conn.now c.transaction-tx.ensures.begun
    (c.is_autocommit-settled.ensures.settled (search rules)) c.prepare.ensures.survives
    c.rollback.new.self.0 c.conn-in-Unsound-1.given.0 (search rules)
    (λ is. (c.schema-live.ensures.live is).0) c.args.version
    (Unsound c.in-Unsound.fault) (rw c.in-Unsound.is at c.in_ok-found.ensures.prepared) refl
    c.rollback.ensures.survives c.rollback.ensures.undone

pub returns-in-Ok-clause-kept : goal.returns-in-Ok-clause-kept
returns-in-Ok-clause-kept g c = λ clean.
    let same : c.commit.new.self.0 ≡ c.conn-in-Sound-1.given.0 = search rules in
    let here = subst (λ h. HasCleanDisk (state g.S.Store h)) (sym same) clean in
    let last = state g.S.Store c.prepare.new.tx.conn.now in
    let kept = rw c.in-Sound.is at c.in_ok-found.ensures.kept in
    subst (λ h. IsKeptBeside (state g.S.Store h).now c.in-Sound.kept) same
    (subst (λ db. IsKeptBeside db c.in-Sound.kept) (sym (c.in-Ok.ensures.ok here).1.now_is)
    (kept (clean_before last _ _ c.commit.ensures.survives here)))
