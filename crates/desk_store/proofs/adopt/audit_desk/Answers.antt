use Rattle.std.proofs.Common.{inl}
use Rattle.sqlite.specs.Held.{state}
use Rattle.desk_beside.specs.Beside.{report_of}
use Rattle.desk_model.specs.Tables.{tables}
use Rattle.desk_snapshot.specs.Tables.{snapshot_of}
use Rattle.desk_sql_layout.proofs.Causes.{any_cause, err_cause}
use Rattle.desk_sql_layout.proofs.Clean.{clean_before}
use Rattle.desk_sql_migrate.proofs.Ends.{is_sound_as}
use Rattle.desk_sql_migrate.proofs.Kept.{shows_tables}
use Rattle.desk_store.specs.Causes.{AreRecorded}
use Rattle.desk_store.proofs.Adopted.{beside_in, found_in}
use Rattle.desk_store.proofs.Recorded.{are_few, can_keep, has_numbers}
use Rattle.desk_store.proofs.adopt.audit_desk.Goals as goal

pub returns-clause-told : goal.returns-clause-told
returns-clause-told g c = λ clean declared.
    found_in (state g.S.Store c.args.conn.now) c.in_ok-snapshot.snapshot c.in_ok-found.found
    (c.in_ok-snapshot.ensures.raw clean declared) c.in_ok-found.ensures.report
    c.in_ok-found.ensures.kept

pub returns-clause-kept : goal.returns-clause-kept
returns-clause-kept g c = λ clean t held.
    beside_in c.in_ok-snapshot.snapshot c.in_ok-found.found c.in_ok-found.ensures.kept t
    (c.in_ok-snapshot.ensures.found clean t held)

pub returns-clause-sound : goal.returns-clause-sound
returns-clause-sound g c = λ w right clean h ok held.
    let sorted = c.listed_tables_are_sorted.ensures w h
    (c.right_readings_list_in_order.ensures w right) in
    is_sound_as w c.in_ok-snapshot.snapshot (snapshot_of (tables w h))
    (report_of c.in_ok-found.found)
    ((c.in_ok-snapshot.ensures.found clean (tables w h) held).listed sorted)
    (c.histories_are_sound.ensures w h right ok) (c.in_ok-found.ensures.report w right)

pub returns-in_err-snapshot-clause-cause : goal.returns-in_err-snapshot-clause-cause
returns-in_err-snapshot-clause-cause g c =
    let old = state g.S.Store c.args.conn.now in
    let new = state g.S.Store c.snapshot.new.conn in
    let fault = c.in_err-snapshot.field-0.0 in
    err_cause AreRecorded old new c.from_residual.result fault c.from_residual.ensures.1
    (any_cause AreRecorded old new fault c.in_err-snapshot.ensures.cause)

pub returns-in_err-found-clause-cause : goal.returns-in_err-found-clause-cause
returns-in_err-found-clause-cause g c =
    let old = state g.S.Store c.args.conn.now in
    let new = state g.S.Store c.snapshot.new.conn in
    let fault = c.in_err-found.field-0.0 in
    let s = c.in_ok-snapshot.snapshot in
    err_cause AreRecorded old new c.from_residual-in_err-found.result fault
    c.from_residual-in_err-found.ensures.1
    (record {
      cause = λ clean opened unlimited t holds written recorded.
          let before = clean_before old new (λ _. ⊥) c.in_ok-snapshot.ensures.read.0.survives clean in
          let shown = (holds before opened).holds in
          let rows = c.in_ok-snapshot.ensures.found clean t holds in
          let sound = c.histories_are_sound.ensures recorded.w recorded.h recorded.right
          recorded.history in
          inl (c.in_err-found.ensures.cause recorded.w recorded.right t (shows_tables s t rows)
          (can_keep t recorded sound written)
          (are_few t recorded sound (state g.S.Store c.args.conn.now).now shown written s rows)
          (has_numbers s t rows));
    })
