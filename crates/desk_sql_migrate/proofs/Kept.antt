-- What is kept beside rows is taken from the snapshot that is audited.
use Rattle.std.proofs.Common.{Ok, Err, Result, IfOk, ap, subst, sym}
use Rattle.sqlite.specs.Effect.{Database}
use Rattle.sqlite.specs.State.{State, HasCleanDisk}
use Rattle.desk_model.specs.Tables.{Tables}
use Rattle.desk_model.specs.declared.command.Fault.{Fault}
use Rattle.desk_snapshot.specs.declared.fault.AuditReport.{AuditReport}
use Rattle.desk_snapshot.specs.declared.snapshot.Snapshot.{Snapshot}
use Rattle.desk_sql_layout.specs.Held.{Holds}
use Rattle.desk_beside.specs.Beside.{IsAudited, ShowsTables, report_of}
use Rattle.desk_beside.specs.declared.beside.Audited.{Audited}
use Rattle.desk_beside.specs.declared.beside.Audited.TheVariants.{Sound, Unsound}
use Rattle.desk_sql_scan.specs.Asked.{HasAsked}
use Rattle.desk_sql_scan.specs.Parts.{AreRowsOf}
use Rattle.desk_sql_migrate.specs.Migrating.{HasNumbersIfSound, IsKeptIfSound, told_of}

pub shows_tables : (s : Snapshot) (t : Tables) → AreRowsOf s t → ShowsTables s t
shows_tables s t it = record {
  catalogue = ap (λ (s : Snapshot). s.catalogue) it.rows;
  document = ap (λ (s : Snapshot). s.document) it.rows;
  releases = ap (λ (s : Snapshot). s.releases) it.rows;
  duty = ap (λ (s : Snapshot). s.duty) it.rows;
}

pub numbers_if_sound : (s : Snapshot) (found : Audited) → IsAudited s found
    → HasNumbersIfSound s (report_of found)
numbers_if_sound s (Sound kept) it = it.0
numbers_if_sound s (Unsound f) it = tt

-- of whatever tables a database holds
pub kept_if_sound : (s : Snapshot) (db : Database) (found : Audited) → IsAudited s found
    → ((t : Tables) → Holds t db → AreRowsOf s t) → IsKeptIfSound db found
kept_if_sound s db (Sound kept) it rows = λ t holds. it.1 t (shows_tables s t (rows t holds))
kept_if_sound s db (Unsound f) it rows = tt

-- ---- what is reported of what was found

pub asked_told : (a b : State) (r : Result Audited Fault) → HasAsked a b r
    → HasAsked a b (told_of r)
asked_told a b (Ok found) it = it
asked_told a b (Err fault) it = it

pub if_told : (P : AuditReport → Type 0) (r : Result Audited Fault)
    → IfOk r (λ found. P (report_of found)) → IfOk (told_of r) P
if_told P (Ok found) it = it
if_told P (Err fault) it = tt

pub if_found : (P : AuditReport → Type 0) (r : Result Audited Fault) → IfOk (told_of r) P
    → IfOk r (λ found. P (report_of found))
if_found P (Ok found) it = it
if_found P (Err fault) it = tt

-- asking leaves what is shown
pub kept_after : (a b : State) (r : Result Audited Fault) → HasAsked a b r → HasCleanDisk b
    → IfOk r (IsKeptIfSound a.now) → IfOk r (IsKeptIfSound b.now)
kept_after a b (Ok found) asked clean it = subst (λ db. IsKeptIfSound db found)
    (sym (asked.1 clean).0.now_is) it
kept_after a b (Err fault) asked clean it = tt
