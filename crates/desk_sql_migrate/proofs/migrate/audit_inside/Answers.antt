use Rattle.sqlite.specs.Held.{state}
use Rattle.desk_beside.specs.Beside.{report_of}
use Rattle.desk_model.specs.Tables.{tables}
use Rattle.desk_snapshot.specs.Tables.{snapshot_of}
use Rattle.desk_sql_migrate.proofs.Ends.{is_sound_as}
use Rattle.desk_sql_migrate.proofs.Kept.{kept_if_sound, numbers_if_sound}
use Rattle.desk_sql_migrate.proofs.migrate.audit_inside.Goals as goal

pub returns-clause-told : goal.returns-clause-told
returns-clause-told g c = λ clean declared. (
  c.in_ok-snapshot.snapshot,
  c.in_ok-snapshot.ensures.ok.raw clean declared,
  numbers_if_sound c.in_ok-snapshot.snapshot c.in_ok-found.found c.in_ok-found.ensures.kept,
  λ w right. c.in_ok-found.ensures.report w right,
)

pub returns-clause-sound : goal.returns-clause-sound
returns-clause-sound g c = λ clean w right h ok holds.
    let sorted = c.listed_tables_are_sorted.ensures w h
    (c.right_readings_list_in_order.ensures w right) in
    is_sound_as w c.in_ok-snapshot.snapshot (snapshot_of (tables w h))
    (report_of c.in_ok-found.found)
    ((c.in_ok-snapshot.ensures.ok.found clean (tables w h) holds).listed sorted)
    (c.histories_are_sound.ensures w h right ok) (c.in_ok-found.ensures.report w right)

pub returns-clause-kept : goal.returns-clause-kept
returns-clause-kept g c = λ clean.
    kept_if_sound c.in_ok-snapshot.snapshot (state g.S.Store c.args.tx.now.conn.now).now
    c.in_ok-found.found c.in_ok-found.ensures.kept (c.in_ok-snapshot.ensures.ok.found clean)
