-- What creating a desk in a database, and adopting one, return and leave.
use Rattle.std.specs.Prelude.{◌≡◌, [], length, IsTrue, Result, Ok, Err}
use Rattle.sqlite_trees.specs.Tree.{Trees}
use Rattle.sqlite.specs.State.{State}
use Rattle.desk_model.specs.Readings.{Readings}
use Rattle.desk_model.specs.Tables.{Tables, tables}
use Rattle.desk_model.specs.declared.command.Fault.{Fault as CallFault}
use Rattle.desk_model.specs.declared.command.Fault.TheVariants.{Store}
use Rattle.desk_model.specs.declared.command.StoreFault.TheVariants.{Rows}
use Rattle.desk_access.specs.Seen.{Seen}
use Rattle.desk_sql_layout.specs.Held.{Showing, Stands}
use Rattle.desk_sql_layout.specs.Layout.{desk_schema}
use Rattle.desk_sql_adopt.specs.Older.{older_tables}
use Rattle.desk_sql_adopt.specs.Reading.{IsSpared, HasStayed}
use Rattle.desk_sql_adopt.specs.declared.older.OlderVersion.{OlderVersion}
use Rattle.desk_sql_adopt.specs.declared.version.Content.{Content}
use Rattle.desk_sql_adopt.specs.declared.version.Content.TheVariants as content
use Rattle.desk_sql_adopt.specs.Version.{IsContent}
use Rattle.desk_snapshot.specs.declared.fault.AuditReport.TheVariants as report
use Rattle.desk_sql_scan.specs.Scans.{AreTables}
use Rattle.desk_beside.specs.Beside.{IsBeside, forms_by}
use Rattle.desk_beside.specs.declared.beside.Audited.{Audited}
use Rattle.desk_beside.specs.declared.beside.Audited.TheVariants as audited
use Rattle.desk_beside.specs.declared.beside.Beside.{Beside}
use Rattle.desk_texts.specs.Right.{AreRight}
use Rattle.desk_sql_write.specs.declared.create.Refused.{Refused}
use Rattle.desk_sql_write.specs.declared.create.Refused.TheVariants as refused
use Rattle.desk_store.specs.Auditing.{IsSoundDesk, Reports}
use Rattle.desk_store.specs.declared.fault.CreateFault.{CreateFault}
use Rattle.desk_store.specs.declared.fault.CreateFault.TheVariants as create
use Rattle.desk_store.specs.declared.fault.AdoptFault.{AdoptFault}
use Rattle.desk_store.specs.declared.fault.AdoptFault.TheVariants.{NotADesk, BadVersion, Unsound, Fault}

-- what is left holds the tables of an empty desk
abbrev pub StandsEmpty : Trees → Type 0
StandsEmpty trees = (w : Readings) → Stands trees (tables w [])

-- the empty desk: it is open, its rows are those tables, and a stop leaves them and no others
pub record IsEmpty (s : Seen Trees) : Type 0 where
  pub is_open : s.is_honest → s.is_open
  pub holds : s.is_honest → (w : Readings) → s.holds (tables w [])
  pub leaves : s.is_honest → (x : Trees) → s.leaves x → StandsEmpty x

-- the forms of tables, which are in no table, only in a text, are those that a reading gives the
-- catalogue in force
abbrev pub HasForms : Readings → Tables → Type 0
HasForms w t = t.forms ≡ forms_by w t (length t.catalogue)

-- no memory was left, or the store failed
abbrev pub IsFault : AdoptFault → Type 0
IsFault (Fault fault) = Unit {0}
IsFault _ = ⊥

-- what an audit may return: it finds something, or no memory was left or the store failed
abbrev pub IsOfAudit : AdoptFault → Type 0
IsOfAudit (Unsound fault) = Unit {0}
IsOfAudit (Fault fault) = Unit {0}
IsOfAudit _ = ⊥

-- by each right reading there are tables that a connection shows and that a desk holds
abbrev pub HoldsSome : State → Seen Trees → Type 0
HoldsSome s desk = (w : Readings) → AreRight w → (t : Tables) × Showing s t × desk.holds t

-- the rows of each table of an older version are in the order of their rowids
abbrev pub AreOlderTables : OlderVersion → Trees → Type 0
AreOlderTables version = AreTables (record desk_schema { tables = older_tables version })

-- what it finds is the report on the rows
abbrev pub IsFinding : State → AdoptFault → Type 0
IsFinding s (Unsound fault) = Reports s (report.Unsound fault)
IsFinding s _ = Unit {0}

-- ---- the outcome

-- whether a database was found to hold a desk's tables
abbrev pub desk_of : Result Content CallFault → Result (Unit {0}) AdoptFault
desk_of (Ok content.Desk) = Ok tt
desk_of (Ok (content.OtherVersion version)) = Err (BadVersion version)
desk_of (Ok content.Other) = Err NotADesk
desk_of (Err fault) = Err (Fault fault)

-- what is kept beside a desk's tables that an audit finds sound
abbrev pub adoption_of : Result Audited CallFault → Result Beside AdoptFault
adoption_of (Ok (audited.Sound kept)) = Ok kept
adoption_of (Ok (audited.Unsound fault)) = Err (Unsound fault)
adoption_of (Err fault) = Err (Fault fault)

-- why no desk is created: the database has tables already, or a fault
abbrev pub creation_of : Refused → CreateFault
creation_of refused.NotEmpty = create.NotEmpty
creation_of (refused.Fault fault) = create.Fault fault

-- what an audit finds of the rows of a database
abbrev pub IsFoundIn : State → Audited → Type 0
IsFoundIn s (audited.Sound kept) = IsSoundDesk s
IsFoundIn s (audited.Unsound fault) = Reports s (report.Unsound fault)

-- sound rows are those of a store that keeps this beside them
abbrev pub IsBesideIfSound : Audited → Tables → Type 0
IsBesideIfSound (audited.Sound kept) t = IsBeside kept t
IsBesideIfSound (audited.Unsound fault) t = Unit {0}

-- ---- why it isn't adopted

-- What the database was found to hold, if it isn't adopted. A fault of the rows is told only of a
-- desk's tables.
abbrev pub IsReason : State → AdoptFault → Type 0
IsReason s NotADesk = IsContent s content.Other
IsReason s (BadVersion version) = IsContent s (content.OtherVersion version)
IsReason s (Unsound fault) = IsContent s content.Desk
    × (IsTrue s.is_open → Reports s (report.Unsound fault))
IsReason s (Fault (Store Rows)) = IsContent s content.Desk
IsReason s (Fault fault) = Unit {0}

-- the connection shows what it showed; only a fault may have ended that
abbrev pub IsLeft : State → State → AdoptFault → Type 0
IsLeft old new (Fault fault) = IsSpared old new
IsLeft old new _ = HasStayed old new
