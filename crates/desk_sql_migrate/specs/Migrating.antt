-- What a migration makes of a database, and why it is refused.
use Rattle.std.specs.Prelude.{◌≡◌, ◌⊎◌, List, IsTrue, Result, Ok, Err}
use Rattle.sqlite_trees.specs.Tree.{Trees}
use Rattle.sqlite.specs.Effect.{Database, IsDatabase}
use Rattle.sqlite.specs.State.{State, HasCleanDisk, KeepsCommit, Survives}
use Rattle.desk_model.specs.Answers.{IsHistory}
use Rattle.desk_model.specs.Readings.{Readings}
use Rattle.desk_model.specs.Tables.{Tables, tables}
use Rattle.desk_model.specs.declared.command.Command.{Command}
use Rattle.desk_model.specs.declared.command.Fault.{Fault}
use Rattle.desk_model.specs.declared.command.Fault.TheVariants.{Store}
use Rattle.desk_model.specs.declared.command.StoreFault.TheVariants.{Rows}
use Rattle.desk_sql_layout.specs.Held.{Holds}
use Rattle.desk_beside.specs.Beside.{HasNumbers, IsBeside, report_of}
use Rattle.desk_beside.specs.declared.beside.Audited.{Audited}
use Rattle.desk_beside.specs.declared.beside.Audited.TheVariants as audited
use Rattle.desk_beside.specs.declared.beside.Beside.{Beside}
use Rattle.desk_sql_adopt.specs.Older.{HasOlder, HoldsOlder, IsOlderContent}
use Rattle.desk_sql_adopt.specs.Reading as reading
use Rattle.desk_sql_adopt.specs.declared.older.OlderVersion.{OlderVersion}
use Rattle.desk_sql_adopt.specs.declared.older.OlderContent.{OlderContent}
use Rattle.desk_sql_adopt.specs.declared.older.OlderContent.TheVariants as content
use Rattle.desk_snapshot.specs.Reports.{IsReport}
use Rattle.desk_snapshot.specs.declared.fault.AuditFault.TheVariants.{BadMeta}
use Rattle.desk_snapshot.specs.declared.fault.AuditReport.{AuditReport}
use Rattle.desk_snapshot.specs.declared.fault.AuditReport.TheVariants as report
use Rattle.desk_snapshot.specs.declared.snapshot.Snapshot.{Snapshot}
use Rattle.desk_sql_scan.specs.Scans.{IsSnapshot}
use Rattle.desk_texts.specs.Right.{AreRight}
use Rattle.desk_sql_migrate.specs.Steps.{Becomes}
use Rattle.desk_sql_migrate.specs.declared.fault.MigrateFault.{MigrateFault}
use Rattle.desk_sql_migrate.specs.declared.fault.MigrateFault.TheVariants as fault

-- sound rows have no number below 0
abbrev pub HasNumbersIfSound : Snapshot → AuditReport → Type 0
HasNumbersIfSound s report.Sound = HasNumbers s
HasNumbersIfSound s (report.Unsound f) = Unit {0}

-- the report on the rows of a database, by each right reading
abbrev pub IsReportOn : Database → AuditReport → Type 0
IsReportOn db told = (s : Snapshot) × IsSnapshot s db × HasNumbersIfSound s told
    × ((w : Readings) → AreRight w → IsReport w s told)

-- what is kept beside the tables that a database holds
abbrev pub IsKeptBeside : Database → Beside → Type 0
IsKeptBeside db kept = (t : Tables) → Holds t db → IsBeside kept t

-- this is true if the audit found the rows sound
abbrev pub IsKeptIfSound : Database → Audited → Type 0
IsKeptIfSound db (audited.Sound kept) = IsKeptBeside db kept
IsKeptIfSound db (audited.Unsound f) = Unit {0}

-- what an audit reports, or its fault
abbrev pub told_of : Result Audited Fault → Result AuditReport Fault
told_of (Ok found) = Ok (report_of found)
told_of (Err fault) = Err fault

-- inside a transaction that is still open, the rows have become those of this version, and this is
-- the report on them
pub record Prepared (version : OlderVersion) (told : AuditReport) (old new : State) : Type 0 where
  pub was_open : IsTrue old.is_open
  pub inside : IsTrue new.in_transaction
  pub kept : KeepsCommit old new
  pub rows : Becomes version old.now new.now
  pub report : HasOlder version old.now.schema → IsDatabase old.now → IsReportOn new.now told

-- the same by the result: done, or after a fault nothing was committed
abbrev pub Prepares : OlderVersion → State → State → Result AuditReport Fault → Type 0
Prepares version old new (Ok told) = HasCleanDisk new → IsTrue old.in_transaction
    → Prepared version told old new
Prepares version old new (Err fault) = HasCleanDisk new → IsTrue old.in_transaction
    → KeepsCommit old new

-- all is committed, and the rows are sound
pub record Migrated (version : OlderVersion) (old new : State) : Type 0 where
  pub was_open : IsTrue old.is_open
  pub is_open : IsTrue new.is_open
  pub settled : new.committed ≡ new.now
  pub rows : Becomes version old.now new.now
  pub sound : IsReportOn new.now report.Sound

-- what was made in the transaction: it is committed, or it wasn't sound
abbrev pub Ends : OlderVersion → State → State → AuditReport → Type 0
Ends version old new report.Sound = Migrated version old new
Ends version old new (report.Unsound f) = (db : Database) × Becomes version old.now db
    × IsReportOn db (report.Unsound f)

-- a stop leaves the rows of this version, which are sound
pub record LeavesMigrated (version : OlderVersion) (old : State) (trees : Trees) : Type 0 where
  pub was_open : IsTrue old.is_open
  pub db : Database
  pub rows : Becomes version old.now db
  pub sound : HasOlder version old.now.schema → IsReportOn db report.Sound
  pub is : trees ≡ db.trees

-- The connection shows what it showed, as far as it still shows anything, although a stop may leave
-- the migrated rows.
pub record IsUndone (Commits : Trees → Type 0) (old new : State) : Type 0 where
  pub survives : Survives old new Commits
  pub was_open : HasCleanDisk new → IsTrue new.is_open → IsTrue old.is_open
  pub now : HasCleanDisk new → IsTrue new.is_open → new.now ≡ old.now
  pub committed : HasCleanDisk new → IsTrue new.is_open → new.committed ≡ old.committed

-- what a transaction leaves if it was committed, if it was dropped, and if it failed
abbrev pub Leaves : OlderVersion → State → State → Result AuditReport Fault → Type 0
Leaves version old new (Ok report.Sound) = Survives old new (LeavesMigrated version old)
Leaves version old new (Ok (report.Unsound f)) = reading.IsSpared old new
Leaves version old new (Err fault) = IsUndone (LeavesMigrated version old) old new

-- the outcome for what an audit finds
abbrev pub outcome_of : OlderVersion → Result Audited Fault
    → Result (OlderVersion × Beside) MigrateFault
outcome_of version (Ok (audited.Sound kept)) = Ok (version, kept)
outcome_of version (Ok (audited.Unsound f)) = Err (fault.Unsound f)
outcome_of version (Err f) = Err (fault.Fault f)

-- the older version that a database was found to have, or why it isn't migrated
abbrev pub older_of : Result OlderContent Fault → Result OlderVersion MigrateFault
older_of (Ok (content.Older version)) = Ok version
older_of (Ok content.Untold) = Err (fault.Unsound BadMeta)
older_of (Ok (content.OtherVersion n)) = Err (fault.BadVersion n)
older_of (Ok content.Other) = Err fault.NotADesk
older_of (Err f) = Err (fault.Fault f)

-- a stop leaves the rows of some older version, migrated
abbrev pub LeavesSome : State → Trees → Type 0
LeavesSome old trees = (version : OlderVersion) × LeavesMigrated version old trees

-- what the database was found to hold if it isn't migrated: something else; another version; no
-- single version; or rows that would not be sound. A fault of the rows is told only of the tables
-- of an older version.
abbrev pub IsReason : State → MigrateFault → Type 0
IsReason s fault.NotADesk = IsOlderContent s content.Other
IsReason s (fault.BadVersion n) = IsOlderContent s (content.OtherVersion n)
IsReason s (fault.Unsound f) =
    (IsOlderContent s content.Untold × (f ≡ BadMeta))
    ⊎ ((version : OlderVersion) × IsOlderContent s (content.Older version)
    × (IsTrue s.is_open → (db : Database) × Becomes version s.now db
    × IsReportOn db (report.Unsound f)))
IsReason s (fault.Fault (Store Rows)) = (version : OlderVersion)
    × IsOlderContent s (content.Older version)
IsReason s (fault.Fault f) = Unit {0}

-- after a refusal the connection shows what it showed; after a fault too, if it still shows
-- anything
abbrev pub IsLeft : State → State → MigrateFault → Type 0
IsLeft old new fault.NotADesk = reading.HasStayed old new
IsLeft old new (fault.BadVersion n) = reading.HasStayed old new
IsLeft old new (fault.Unsound f) = reading.IsSpared old new
IsLeft old new (fault.Fault f) = IsUndone (LeavesSome old) old new

-- no memory was left, or the database failed
abbrev pub IsFault : MigrateFault → Type 0
IsFault (fault.Fault f) = Unit {0}
IsFault _ = ⊥

-- true for each right reading and each recorded history whose tables the database held in an older
-- version
abbrev pub InOlderHistory : OlderVersion → (Readings → List Command → Type 0) → State → State
    → Type 0
InOlderHistory version Is old new =
    (w : Readings) → AreRight w → HasCleanDisk new → IsTrue old.is_open → (h : List Command)
    → IsHistory w h
    → HoldsOlder version (tables w h) old.now → Is w h
