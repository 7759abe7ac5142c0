use Rattle.std.proofs.Common.{◌≡◌, IfErr, sym, subst, rules}
use Rattle.sqlite.specs.State.{HasCleanDisk}
use Rattle.sqlite.specs.Held.{state}
use Rattle.desk_sql_write.specs.Creating.{CreateFails}
use Rattle.desk_sql_write.proofs.Empty.{commit_fails, commit_leaves, dropped_fails}
use Rattle.desk_sql_write.proofs.create.write.Goals as goal

pub returns-in-Ok-clause-crash : goal.returns-in-Ok-clause-crash
returns-in-Ok-clause-crash g c =
    let same : c.commit.new.self.0 ≡ c.conn-2-1.given.0 = search rules in
    let begun = c.transaction-tx.ensures.begun in
    rw (sym same) (commit_leaves g.S.Store c.args.conn.now
    (state g.S.Store c.declare_tables.new.tx.conn.now) (state g.S.Store c.commit.new.self.0)
    (rw begun at c.declare_tables.ensures.survives) c.commit.ensures.survives
    (λ clean. rw begun at (c.in_ok-declare_tables.ensures.founded clean (rw begun))))

pub returns-in-Err-clause-crash : goal.returns-in-Err-clause-crash
returns-in-Err-clause-crash g c =
    let same : c.commit.new.self.0 ≡ c.conn-2-1.given.0 = search rules in
    let begun = c.transaction-tx.ensures.begun in
    rw (sym same) (commit_leaves g.S.Store c.args.conn.now
    (state g.S.Store c.declare_tables.new.tx.conn.now) (state g.S.Store c.commit.new.self.0)
    (rw begun at c.declare_tables.ensures.survives) c.commit.ensures.survives
    (λ clean. rw begun at (c.in_ok-declare_tables.ensures.founded clean (rw begun))))

pub returns-in_err-declare_tables-clause-cause : goal.returns-in_err-declare_tables-clause-cause
returns-in_err-declare_tables-clause-cause g c =
    let same : c.drop-tx.new.self.0 ≡ c.conn-1.given.0 = search rules in
    let old = c.args.conn.now in
    let last = c.declare_tables.new.tx.conn.now in
    let fault = c.in_err-declare_tables.field-0.0 in
    let begun = c.transaction-tx.ensures.begun in
    subst (λ h. IfErr c.from_residual.result
    (CreateFails (state g.S.Store old) (state g.S.Store h))) same
    (dropped_fails g.S.Store old (state g.S.Store last) (state g.S.Store c.drop-tx.new.self.0) _
    c.from_residual.result fault c.from_residual.ensures.1 c.drop-tx.ensures.survives
    (rw begun at c.in_err-declare_tables.ensures.cause))

pub returns-in-Err-clause-cause : goal.returns-in-Err-clause-cause
returns-in-Err-clause-cause g c =
    let same : c.commit.new.self.0 ≡ c.conn-2-1.given.0 = search rules in
    let old = c.args.conn.now in
    let last = c.declare_tables.new.tx.conn.now in
    let begun = c.transaction-tx.ensures.begun in
    let inside = λ (clean : HasCleanDisk (state g.S.Store last)). rw begun at
    (c.in_ok-declare_tables.ensures.founded clean (rw begun)) in
    let fails = commit_fails g.S.Store old (state g.S.Store last)
    (state g.S.Store c.commit.new.self.0) _ c.in-Err.error (rw begun at
    c.declare_tables.ensures.survives)
    c.commit.ensures.survives inside c.in-Err.ensures.err in
    subst (λ h. CreateFails (state g.S.Store old) (state g.S.Store h) c.fault_of.result) same
    (subst (CreateFails (state g.S.Store old) (state g.S.Store c.commit.new.self.0))
    (sym c.fault_of.ensures) fails)
