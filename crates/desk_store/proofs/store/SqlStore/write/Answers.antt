use Rattle.sqlite.specs.Held.{state}
use Rattle.desk_access.specs.Follows.{Follows}
use Rattle.desk_model.specs.Tables.{applied}
use Rattle.desk_sql_layout.specs.Held.{seen_of}
use Rattle.desk_store.specs.Counting.{known_by}
use Rattle.desk_store.proofs.Counted.{failed, left, nothing_found, on_err, wrote}
use Rattle.desk_tally.specs.Kept.{AreKept}
use Rattle.desk_store.proofs.Failing.{err_fails, uncounted, unfound, unwritten}
use Rattle.desk_store.proofs.store.SqlStore.write.Goals as goal

pub returns-in_err-found-clause-failed : goal.returns-in_err-found-clause-failed
returns-in_err-found-clause-failed g c =
    let self = c.args.self.now in
    let has = c.prepare.new.self.found in
    rw (c.prepare.ensures.counts, c.prepare.ensures.forms)
    (on_err c.from_residual.result _
    (left c.args.change.now self.found has (known_by self.counts self.forms) self.tallies
    c.prepare.new.self.tallies (seen_of (state g.S.Store self.conn))
    (seen_of (state g.S.Store c.prepare.new.self.conn))
    (nothing_found has c.prepare.ensures.left) c.prepare.ensures.tallies
    c.in_err-found.ensures.looks.kept))

pub returns-in_err-commit_counted-clause-failed : goal.returns-in_err-commit_counted-clause-failed
returns-in_err-commit_counted-clause-failed g c =
    let self = c.args.self.now in
    let has = c.prepare.new.self.found in
    rw (
      c.in_err-commit_counted.ensures.uncounted,
      c.prepare.ensures.counts,
      c.prepare.ensures.forms,
    )
    (on_err c.from_residual-in_err-commit_counted.result _
    (failed c.args.change.now self.found has (known_by self.counts self.forms) self.tallies
    c.prepare.new.self.tallies (seen_of (state g.S.Store self.conn))
    (seen_of (state g.S.Store c.prepare.new.self.conn))
    (seen_of (state g.S.Store c.commit_counted.new.conn)) (nothing_found has c.prepare.ensures.left)
    c.prepare.ensures.tallies c.in_ok-found.ensures.looks.kept c.replaces_none-is_new.result
    (λ t found is. c.replaces_none-is_new.ensures.none is t found)
    c.in_err-commit_counted.ensures.wrote))

pub returns-clause-wrote : goal.returns-clause-wrote
returns-clause-wrote g c =
    let self = c.args.self.now in
    let change = c.args.change.now in
    let looks = c.in_ok-found.ensures.looks in
    let made = c.in_ok-commit_counted.ensures.wrote in
    rw (c.keep.ensures.counts, c.keep.ensures.found, c.keep.ensures.conn, c.keep.ensures.tallies)
    (wrote change self.found c.in_ok-found.field-0.found self.counts c.in-Some.counts self.forms
    self.tallies c.commit_counted.new.tallies (state g.S.Store self.conn)
    (state g.S.Store c.prepare.new.self.conn)
    (state g.S.Store c.commit_counted.new.conn) c.in-Some.ensures.after looks.kept
    c.replaces_none-is_new.result (λ t found is. c.replaces_none-is_new.ensures.none is t found) made
    (λ clean t held up kept. c.in_ok-commit_counted.ensures.counted (applied change t)
    ((looks.found (made.honest clean) t held up).0 kept))
    (λ clean t held up follows are. (looks.found (made.honest clean) t held up).1 follows are))

pub returns-in_default-clause-cause : goal.returns-in_default-clause-cause
returns-in_default-clause-cause g c = λ writable small.
    let self = c.args.self.now in
    uncounted c.args.change.now self.found self.tallies self.counts self.forms
    (state g.S.Store self.conn) _ c.in_default.ensures.none

pub returns-in_err-found-clause-cause : goal.returns-in_err-found-clause-cause
returns-in_err-found-clause-cause g c = λ writable small.
    let self = c.args.self.now in
    let change = c.args.change.now in
    let a = state g.S.Store self.conn in
    let b = state g.S.Store c.prepare.new.self.conn in
    let fault = c.in_err-found.field-0.0 in
    err_fails change _ a b c.from_residual.result fault c.from_residual.ensures.1
    (unfound change self.found self.tallies self.counts self.forms
    (λ t. AreKept self.tallies t × Follows change t) a b (λ t kept follows. (kept, follows)) fault
    c.in_err-found.ensures.looks.cause)

pub returns-in_err-commit_counted-clause-cause : goal.returns-in_err-commit_counted-clause-cause
returns-in_err-commit_counted-clause-cause g c = λ writable small.
    let self = c.args.self.now in
    let change = c.args.change.now in
    let fault = c.in_err-commit_counted.field-0.0 in
    err_fails change _ (state g.S.Store self.conn) (state g.S.Store c.commit_counted.new.conn)
    c.from_residual-in_err-commit_counted.result fault
    c.from_residual-in_err-commit_counted.ensures.1
    (unwritten change self.found self.tallies self.counts self.forms g.S.Store self.conn
    c.prepare.new.self.conn c.commit_counted.new.conn c.in_ok-found.ensures.looks
    c.in_err-commit_counted.ensures.wrote.spared.honest c.replaces_none-is_new.result
    (λ t found is. c.replaces_none-is_new.ensures.none is t found) fault
    (c.in_err-commit_counted.ensures.cause writable small))
