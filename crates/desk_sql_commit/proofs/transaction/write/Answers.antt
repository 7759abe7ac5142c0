use Rattle.std.proofs.Common.{◌≡◌, refl, subst, rules, IfErr, sym}
use Rattle.desk_sql_layout.proofs.Clean.{clean_before}
use Rattle.sqlite.specs.State.{HasCleanDisk, Survives}
use Rattle.sqlite.specs.Held.{state}
use Rattle.sqlite.proofs.StateLemmas.{survives_then}
use Rattle.sqlite.proofs.Callers.{survives_begin}
use Rattle.desk_sql_commit.specs.Committing.{Done, Leaves, CommitFails}
use Rattle.desk_sql_commit.proofs.Ends.{ends_done, made_fails, commit_fails, err_ends}
use Rattle.desk_sql_commit.proofs.transaction.write.Goals as goal

pub returns-in-Ok-clause-crash : goal.returns-in-Ok-clause-crash
returns-in-Ok-clause-crash g c =
    let same : c.commit.new.self.0 ≡ c.conn-2-1.given.0 = search rules in
    let old = c.args.conn.now in
    let last = c.write_change.new.tx.conn.now in
    let begun = c.transaction-tx.ensures.begun in
    let inside = λ (clean : HasCleanDisk (state g.S.Store last)). rw begun at
    (c.in_ok-write_change.ensures.wrote clean (rw begun)) in
    let P = Leaves c.args.is_new c.args.change.now (state g.S.Store old) in
    let whole = survives_then (state g.S.Store old) (state g.S.Store last)
    (state g.S.Store c.commit.new.self.0) _ _ P (λ _ db none. absurd none)
    (λ clean db is. let it = inside (clean_before _ _ _ c.commit.ensures.survives clean) in
    ((state g.S.Store last).now, λ t takes. it.change (record { tables = t; takes = takes }), is))
    (survives_begin g.S.Store old (state g.S.Store last) _
    (rw begun at c.write_change.ensures.survives)) c.commit.ensures.survives in
    subst (λ h. Survives (state g.S.Store old) (state g.S.Store h) P) same whole

pub returns-in-Err-clause-crash : goal.returns-in-Err-clause-crash
returns-in-Err-clause-crash g c =
    let same : c.commit.new.self.0 ≡ c.conn-2-1.given.0 = search rules in
    let old = c.args.conn.now in
    let last = c.write_change.new.tx.conn.now in
    let begun = c.transaction-tx.ensures.begun in
    let inside = λ (clean : HasCleanDisk (state g.S.Store last)). rw begun at
    (c.in_ok-write_change.ensures.wrote clean (rw begun)) in
    let P = Leaves c.args.is_new c.args.change.now (state g.S.Store old) in
    let whole = survives_then (state g.S.Store old) (state g.S.Store last)
    (state g.S.Store c.commit.new.self.0) _ _ P (λ _ db none. absurd none)
    (λ clean db is. let it = inside (clean_before _ _ _ c.commit.ensures.survives clean) in
    ((state g.S.Store last).now, λ t takes. it.change (record { tables = t; takes = takes }), is))
    (survives_begin g.S.Store old (state g.S.Store last) _
    (rw begun at c.write_change.ensures.survives)) c.commit.ensures.survives in
    subst (λ h. Survives (state g.S.Store old) (state g.S.Store h) P) same whole

pub returns-in_err-write_change-clause-cause : goal.returns-in_err-write_change-clause-cause
returns-in_err-write_change-clause-cause g c told =
    let same : c.drop-tx.new.self.0 ≡ c.conn-1.given.0 = search rules in
    let old = c.args.conn.now in
    let last = c.write_change.new.tx.conn.now in
    let fault = c.in_err-write_change.field-0.0 in
    let begun = c.transaction-tx.ensures.begun in
    let fails = made_fails g.S.Store old (state g.S.Store last)
    (state g.S.Store c.drop-tx.new.self.0) c.args.is_new c.args.change.now _ fault
    c.drop-tx.ensures.survives (rw begun at (c.in_err-write_change.ensures.cause told)) in
    subst (λ h. IfErr c.from_residual.result
    (CommitFails c.args.is_new c.args.change.now (state g.S.Store old) (state g.S.Store h))) same
    (err_ends c.args.is_new c.args.change.now (state g.S.Store old)
    (state g.S.Store c.drop-tx.new.self.0) c.from_residual.result fault c.from_residual.ensures.1
    fails)

pub returns-in-Err-clause-cause : goal.returns-in-Err-clause-cause
returns-in-Err-clause-cause g c told =
    let same : c.commit.new.self.0 ≡ c.conn-2-1.given.0 = search rules in
    let old = c.args.conn.now in
    let last = c.write_change.new.tx.conn.now in
    let begun = c.transaction-tx.ensures.begun in
    let inside = λ (clean : HasCleanDisk (state g.S.Store last)). rw begun at
    (c.in_ok-write_change.ensures.wrote clean (rw begun)) in
    let uses = λ (clean : HasCleanDisk (state g.S.Store last)). rw begun at
    (c.in_ok-write_change.ensures.cause told clean (rw begun)) in
    let fails = commit_fails g.S.Store old (state g.S.Store last)
    (state g.S.Store c.commit.new.self.0) c.args.is_new c.args.change.now _ _ c.in-Err.error
    (rw begun at c.write_change.ensures.survives) c.commit.ensures.survives inside uses
    c.in-Err.ensures.err in
    subst (λ h. CommitFails c.args.is_new c.args.change.now (state g.S.Store old)
    (state g.S.Store h) c.fault_of.result) same
    (subst (CommitFails c.args.is_new c.args.change.now (state g.S.Store old)
    (state g.S.Store c.commit.new.self.0)) (sym c.fault_of.ensures) fails)

pub returns-in-Ok-clause-ok : goal.returns-in-Ok-clause-ok
returns-in-Ok-clause-ok g c clean =
    let same : c.commit.new.self.0 ≡ c.conn-2-1.given.0 = search rules in
    let old = c.args.conn.now in
    let last = state g.S.Store c.write_change.new.tx.conn.now in
    let new = state g.S.Store c.commit.new.self.0 in
    let begun = c.transaction-tx.ensures.begun in
    let here = subst (λ h. HasCleanDisk (state g.S.Store h)) (sym same) clean in
    let inside = rw begun at (c.in_ok-write_change.ensures.wrote
    (clean_before _ _ _ c.commit.ensures.survives here) (rw begun refl)) in
    subst (λ h. Done c.args.is_new c.args.change.now (state g.S.Store old) (state g.S.Store h)) same
    (ends_done g.S.Store old last new c.args.is_new c.args.change.now inside
    (c.in-Ok.ensures.ok here).1)
