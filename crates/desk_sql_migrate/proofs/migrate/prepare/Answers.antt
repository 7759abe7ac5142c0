use Rattle.std.proofs.Common.{◌≡◌, IsTrue, List}
use Rattle.sqlite.specs.Held.{state}
use Rattle.sqlite.specs.State.{HasCleanDisk}
use Rattle.desk_model.specs.Answers.{IsHistory}
use Rattle.desk_model.specs.Readings.{Readings}
use Rattle.desk_model.specs.Tables.{tables}
use Rattle.desk_model.specs.declared.command.Command.{Command}
use Rattle.desk_snapshot.specs.declared.fault.AuditReport.TheVariants.{Sound}
use Rattle.desk_sql_adopt.specs.Older.{HoldsOlder}
use Rattle.desk_sql_layout.specs.Held.{Holds}
use Rattle.desk_texts.specs.Right.{AreRight}
use Rattle.desk_sql_migrate.specs.Migrating.{IsReportOn, told_of}
use Rattle.desk_sql_migrate.proofs.Kept.{asked_told, if_found, if_told, kept_after}
use Rattle.desk_sql_migrate.proofs.Preparing.{prepared, prepared_sound, prepared_survives}
use Rattle.desk_sql_migrate.proofs.migrate.prepare.Goals as goal

pub returns-clause-prepared : goal.returns-clause-prepared
returns-clause-prepared g c =
    let b = state g.S.Store c.upgrade.new.tx.conn.now in
    let last = state g.S.Store c.audit_inside.new.tx.conn.now in
    let r = c.audit_inside.result in
    prepared c.args.version (state g.S.Store c.args.tx.now.conn.now) b last
    c.in_ok-upgrade.ensures.upgraded (told_of r) (asked_told b last r c.audit_inside.ensures.asked)
    (λ clean declared. if_told (IsReportOn b.now) r (c.audit_inside.ensures.told clean declared))

pub returns-clause-sound : goal.returns-clause-sound
returns-clause-sound g c =
    let a = state g.S.Store c.args.tx.now.conn.now in
    let b = state g.S.Store c.upgrade.new.tx.conn.now in
    let last = state g.S.Store c.audit_inside.new.tx.conn.now in
    let r = c.audit_inside.result in
    if_found (λ report. HasCleanDisk last → IsTrue a.in_transaction → (w : Readings) → AreRight w
    → (h : List Command) → IsHistory w h → HoldsOlder c.args.version (tables w h) a.now
    → report ≡ Sound) r
    (prepared_sound c.args.version a b last c.in_ok-upgrade.ensures.upgraded (told_of r)
    (asked_told b last r c.audit_inside.ensures.asked)
    (if_told (λ report. HasCleanDisk last → (w : Readings) → AreRight w → (h : List Command)
    → IsHistory w h → Holds (tables w h) b.now → report ≡ Sound) r c.audit_inside.ensures.sound))

pub returns-clause-kept : goal.returns-clause-kept
returns-clause-kept g c = λ clean.
    kept_after (state g.S.Store c.upgrade.new.tx.conn.now)
    (state g.S.Store c.audit_inside.new.tx.conn.now) c.audit_inside.result
    c.audit_inside.ensures.asked clean (c.audit_inside.ensures.kept clean)

pub returns-clause-survives : goal.returns-clause-survives
returns-clause-survives g c =
    prepared_survives c.args.version (state g.S.Store c.args.tx.now.conn.now)
    (state g.S.Store c.upgrade.new.tx.conn.now) (state g.S.Store c.audit_inside.new.tx.conn.now)
    c.in_ok-upgrade.ensures.upgraded
    c.audit_inside.result c.audit_inside.ensures.asked
