-- What an audit of a database reports.
use Rattle.std.specs.Prelude.{◌≡◌}
use Rattle.sqlite.specs.State.{State, HasCleanDisk}
use Rattle.desk_model.specs.Readings.{Readings}
use Rattle.desk_sql_layout.specs.Desk.{HasDesk}
use Rattle.desk_snapshot.specs.Reports.{IsReport}
use Rattle.desk_snapshot.specs.declared.fault.AuditReport.{AuditReport}
use Rattle.desk_snapshot.specs.declared.fault.AuditReport.TheVariants as report
use Rattle.desk_snapshot.specs.declared.snapshot.Snapshot.{Snapshot}
use Rattle.desk_beside.specs.Beside.{HasNumbers}
use Rattle.desk_sql_scan.specs.Scans.{IsSnapshot}
use Rattle.desk_texts.specs.Right.{AreRight}

-- the report on the rows of a database, by each right reading
abbrev pub Reports : State → AuditReport → Type 0
Reports old report = (s : Snapshot) × IsSnapshot s old.now
    × ((w : Readings) → AreRight w → IsReport w s report)

-- The report is that on the rows, if the database has a desk's tables.
abbrev pub IsAudit : State → State → AuditReport → Type 0
IsAudit old new report = HasCleanDisk new → HasDesk old.now.schema → Reports old report

-- the rows of a database are sound by each right reading, and have no number below 0
abbrev pub IsSoundDesk : State → Type 0
IsSoundDesk old = (s : Snapshot) × IsSnapshot s old.now × HasNumbers s
    × ((w : Readings) → AreRight w → IsReport w s report.Sound)
