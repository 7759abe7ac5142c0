use Rattle.sqlite.specs.Held.{state}
use Rattle.desk_model.specs.Tables.{tables}
use Rattle.desk_sql_migrate.proofs.Ends.{holds_older}
use Rattle.desk_store.proofs.Bodies.{history_forms, known}
use Rattle.desk_store.proofs.MigratedRows.{some_migrated}
use Rattle.desk_store.proofs.desk.SqlDesk.migrate.Goals as goal

pub returns-in-Ok-clause-rows : goal.returns-in-Ok-clause-rows
returns-in-Ok-clause-rows g c = λ honest w right t held forms.
    let clean = rw c.over.ensures.same at honest in
    let shown = rw c.over.ensures.same at held in
    let made = c.in-Ok.ensures.migrated clean in
    let beside = c.in-Ok.ensures.kept clean t shown in
    c.over.ensures.holds t (known w right t c.in-Ok.kept beside forms) beside.tallies
    (λ _ _. record { holds = shown; settled = made.1.settled })

pub returns-in-Ok-clause-holds : goal.returns-in-Ok-clause-holds
returns-in-Ok-clause-holds g c = λ version w right honest is h ok older.
    let clean = rw c.over.ensures.same at honest in
    let same = c.in-Ok.ensures.history version w right clean is h ok older in
    let made = c.in-Ok.ensures.migrated clean in
    let shown = holds_older c.in-Ok.version version (tables w h) (state g.S.Store c.args.conn).now
    (state g.S.Store c.migrate_tables.new.conn).now same older made.1.rows in (
      same,
      returns-in-Ok-clause-rows g c honest w right (tables w h) (rw c.over.ensures.same shown)
          (history_forms w h),
    )

pub returns-in-Ok-clause-stop : goal.returns-in-Ok-clause-stop
returns-in-Ok-clause-stop g c = λ honest left may.
    let clean = rw c.over.ensures.same at honest in
    rw c.over.ensures.same (c.in-Ok.ensures.stop clean left (rw c.over.ensures.same at may))

pub returns-in-Ok-clause-stands : goal.returns-in-Ok-clause-stands
returns-in-Ok-clause-stands g c = λ version w right honest is h ok older left may.
    let clean = rw c.over.ensures.same at honest in
    let same = c.in-Ok.ensures.history version w right clean is h ok older in
    let made = c.in-Ok.ensures.migrated clean in (
      (state g.S.Store c.migrate_tables.new.conn).now,
      holds_older c.in-Ok.version version (tables w h) (state g.S.Store c.args.conn).now
          (state g.S.Store c.migrate_tables.new.conn).now same older made.1.rows,
      c.in-Ok.ensures.stop clean left (rw c.over.ensures.same at may),
    )

pub returns-in-Ok-clause-some : goal.returns-in-Ok-clause-some
returns-in-Ok-clause-some g c = λ honest stand w right.
    let old = state g.S.Store c.args.conn in
    let new = state g.S.Store c.migrate_tables.new.conn in
    let clean = rw c.over.ensures.same at honest in
    let made = c.in-Ok.ensures.migrated clean in
    let found = some_migrated c.in-Ok.version old new made.0.1
    (c.schema-schema.ensures.live made.1.was_open).0 stand made.1
    c.sound_rows_are_tables.ensures w right (c.right_readings_list_ids.ensures w right) in (
      found.0,
      rw c.over.ensures.same found.1,
      returns-in-Ok-clause-rows g c honest w right found.0 (rw c.over.ensures.same found.1.holds)
          found.2,
    )
