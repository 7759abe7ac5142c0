use Rattle.std.proofs.Common.{◌∙◌, rules}
use Rattle.sqlite.specs.Held.{state}
use Rattle.sqlite.specs.State.{HasCleanDisk, Survives, FailsToQuery, CommitsShowing}
use Rattle.sqlite.specs.Values.{bound}
use Rattle.desk_sql_layout.specs.Held.{seen_of}
use Rattle.desk_sql_layout.specs.Faults.{fault_by}
use Rattle.desk_sql_layout.specs.Streamed.{CanBeRead}
use Rattle.desk_sql_layout.proofs.Calls.{failed}
use Rattle.desk_sql_layout.proofs.Causes.{any_cause, err_cause, failed_cause, memory_err}
use Rattle.desk_sql_layout.proofs.Causes.{plain_text}
use Rattle.desk_sql_layout.proofs.Chains.{same_then_kept, same_then_same}
use Rattle.desk_sql_layout.proofs.Streaming.{begun_open, begun_read, begun_same, read_all}
use Rattle.desk_sql_layout.proofs.Streaming.{read_failed, read_on}
use Rattle.desk_sql_layout.proofs.query.read_rows.Goals as goal

pub returns-in-Err : goal.returns-in-Err
returns-in-Err g c =
    let sql = c.args.sql.now in
    let params = bound c.args.params.now in
    let old = state g.S.Store c.args.conn.now in
    let new = state g.S.Store c.query.follows.lender-at-none in
    let held = c.query.follows.holds-at-none in
    let survives : Survives old new (CommitsShowing sql params old) = search rules in
    let fails : HasCleanDisk new → FailsToQuery sql params old new c.in-Err.error = search rules in
    record {
      ok = λ plain. tt;
      err = λ plain. failed sql params old new plain survives c.in-Err.error fails;
      cause = λ asked.
          rw c.fault_of.ensures
          (any_cause (CanBeRead g.T.ReadRow.cells g.T.ReadRow.has_days sql params old new) old new
          (fault_by c.in-Err.error)
          (failed_cause sql params old new (CommitsShowing sql params old) survives asked
          c.in-Err.error fails));
      limit = search rules;
      mode = search rules;
    }

pub rows-init : goal.rows-init
rows-init g c =
    let sql = c.args.sql.now in
    let params = bound c.args.params.now in
    let made = c.in-Ok.ensures in
    record {
      reference = search rules;
      mode = made.mode;
      limit = made.survives.limit;
      opened = begun_open g.S.Store g.T.ReadRow.cells sql params c.args.conn.now
          c.in-Ok.rows.conn.now made.begun;
      same = λ plain. begun_same g.S.Store g.T.ReadRow.cells sql params c.args.conn.now
          c.in-Ok.rows.conn.now plain made.survives made.begun;
      read = λ plain. rw c.new-found.ensures.items
          (begun_read g.S.Store g.T.ReadRow.cells sql params c.args.conn.now c.in-Ok.rows.conn.now
          plain made.begun);
    }

pub returns-in_err-row : goal.returns-in_err-row
returns-in_err-row g c =
    let sql = c.args.sql.now in
    let params = bound c.args.params.now in
    let first = seen_of (state g.S.Store c.args.conn.now) in
    let old = seen_of (state g.S.Store c.rows.rows.conn.now) in
    let new = seen_of (state g.S.Store c.read_next.new.rows.conn.now) in
    let step = c.in_err-row.ensures in
    let fault = c.in_err-row.field-0.0 in
    record {
      ok = search rules;
      err = λ plain. let kept = same_then_kept first old new (c.rows.invariant.same plain)
          step.kept in search rules;
      cause = λ asked.
          let plain = plain_text asked in
          let has = read_failed g.S.Store g.T.ReadRow.cells g.T.ReadRow.has_days sql params asked
          c.args.conn.now
          c.rows.rows.conn.now c.read_next.new.rows.conn.now c.rows.found.items
          (c.rows.invariant.same plain)
          step.kept.spared.honest c.rows.invariant.limit (c.rows.invariant.read plain) fault
          (λ clean. step.cause clean sql params) in
          err_cause _ _ _ c.from_residual.result fault c.from_residual.ensures.1 (search rules);
      limit = search rules;
      mode = search rules;
    }

pub returns-in_err-push-in-Some : goal.returns-in_err-push-in-Some
returns-in_err-push-in-Some g c =
    let first = seen_of (state g.S.Store c.args.conn.now) in
    let old = seen_of (state g.S.Store c.rows.rows.conn.now) in
    let new = seen_of (state g.S.Store c.read_next.new.rows.conn.now) in
    record {
      ok = search rules;
      err = λ plain.
          let same = same_then_same first old new (c.rows.invariant.same plain)
          c.in_ok-row.ensures.kept in
          let kept = same.kept in
          search rules;
      cause = λ asked.
          memory_err _ _ _ c.from_residual-in_err-push-in-Some.result
          c.from_residual-in_err-push-in-Some.ensures.1;
      limit = search rules;
      mode = search rules;
    }

pub returns-in-None : goal.returns-in-None
returns-in-None g c =
    let sql = c.args.sql.now in
    let params = bound c.args.params.now in
    let first = seen_of (state g.S.Store c.args.conn.now) in
    let old = seen_of (state g.S.Store c.rows.rows.conn.now) in
    let new = seen_of (state g.S.Store c.read_next.new.rows.conn.now) in
    record {
      ok = λ plain.
          let same = same_then_same first old new (c.rows.invariant.same plain)
          c.in_ok-row.ensures.kept in
          let opened = c.rows.invariant.opened in
          let honest = c.in_ok-row.ensures.kept.kept.spared.honest in
          let shown = read_all g.S.Store g.T.ReadRow.cells sql params plain c.args.conn.now
          c.rows.rows.conn.now
          c.read_next.new.rows.conn.now c.rows.found.items honest (c.rows.invariant.read plain)
          (λ clean.
          let moved = c.in_ok-row.ensures.reads clean in
          (moved.0, λ given has. rw c.in-None.is at (moved.1 sql params given has))) in
          search rules;
      err = search rules;
      cause = search rules;
      limit = search rules;
      mode = search rules;
    }

pub rows-preserved : goal.rows-preserved
rows-preserved g c =
    let sql = c.args.sql.now in
    let params = bound c.args.params.now in
    let first = seen_of (state g.S.Store c.args.conn.now) in
    let old = seen_of (state g.S.Store c.rows.rows.conn.now) in
    let new = seen_of (state g.S.Store c.read_next.new.rows.conn.now) in
    let step = c.in_ok-row.ensures in
    record {
      reference = step.same_reference ∙ c.rows.invariant.reference;
      mode = λ none. step.mode (c.rows.invariant.mode none);
      limit = step.limit ∙ c.rows.invariant.limit;
      opened = λ clean. c.rows.invariant.opened (step.kept.kept.spared.honest clean);
      same = λ plain. same_then_same first old new (c.rows.invariant.same plain) step.kept;
      read = λ plain. rw c.in_ok-push-in-Some.ensures.items
          (read_on g.S.Store g.T.ReadRow.cells sql params plain c.args.conn.now c.rows.rows.conn.now
          c.read_next.new.rows.conn.now c.rows.found.items
          step.kept.kept.spared.honest (c.rows.invariant.read plain) c.in-Some.row
          (λ clean. let moved = step.reads clean in
          (moved.0, λ given has. rw c.in-Some.is at (moved.1 sql params given has))));
    }
