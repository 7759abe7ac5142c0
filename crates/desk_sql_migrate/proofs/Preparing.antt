-- Writing what a version lacks, and reading the result.
use Rattle.std.proofs.Common.{◌≡◌, List, IsTrue, Ok, Err, Result, IfOk, sym, subst}
use Rattle.sqlite.specs.Effect.{Database}
use Rattle.sqlite.specs.State.{State, HasCleanDisk, Survives}
use Rattle.sqlite.proofs.InsideLemmas.{keeps_then}
use Rattle.desk_model.specs.Answers.{IsHistory}
use Rattle.desk_model.specs.Readings.{Readings}
use Rattle.desk_model.specs.Tables.{tables}
use Rattle.desk_model.specs.declared.command.Command.{Command}
use Rattle.desk_model.specs.declared.command.Fault.{Fault}
use Rattle.desk_sql_layout.specs.Held.{HasRows, Holds}
use Rattle.desk_sql_layout.specs.Desk.{HasDesk}
use Rattle.desk_sql_layout.proofs.Clean.{clean_before}
use Rattle.desk_sql_write.proofs.Inside.{survives_both}
use Rattle.desk_sql_adopt.specs.Older.{HoldsOlder, migrated}
use Rattle.desk_sql_adopt.specs.declared.older.OlderVersion.{OlderVersion}
use Rattle.desk_snapshot.specs.declared.fault.AuditReport.{AuditReport}
use Rattle.desk_snapshot.specs.declared.fault.AuditReport.TheVariants.{Sound}
use Rattle.desk_sql_scan.specs.Asked.{HasAsked}
use Rattle.desk_texts.specs.Right.{AreRight}
use Rattle.desk_sql_migrate.specs.Migrating.{IsReportOn, Prepares}
use Rattle.desk_sql_migrate.specs.Steps.{Upgrades}
use Rattle.desk_sql_migrate.proofs.Ends.{holds_migrated}

module _ (version : OlderVersion) (a b c : State) (up : Upgrades version a b (Ok tt)) where
  pub prepared : (r : Result AuditReport Fault) → HasAsked b c r
      → (HasCleanDisk c → HasDesk b.now.schema → IfOk r (IsReportOn b.now))
      → Prepares version a c r
  prepared (Ok told) asked report = λ clean inside.
      let u = up.done (clean_before b c (λ _. ⊥) asked.0 clean) inside in
      let same = asked.1 clean in
      record {
        was_open = u.was_open;
        inside = subst IsTrue (sym same.0.mode) u.inside;
        kept = keeps_then a b c u.kept
            (record { was_open = λ _. same.0.was_open; committed = λ _. same.0.committed_is });
        rows = λ rows given. subst (HasRows (migrated version rows)) (sym same.0.now_is)
            (u.rows rows given);
        report = λ has sound. subst (λ (db : Database). IsReportOn db told) (sym same.0.now_is)
            (report clean (u.declared has sound));
      }
  prepared (Err e) asked report = λ clean inside. keeps_then a b c
      (up.done (clean_before b c (λ _. ⊥) asked.survives clean) inside).kept (asked.kept clean)

  pub prepared_sound : (r : Result AuditReport Fault) → HasAsked b c r
      → IfOk r (λ report. HasCleanDisk c → (w : Readings) → AreRight w → (h : List Command)
      → IsHistory w h → Holds (tables w h) b.now → report ≡ Sound)
      → IfOk r (λ report. HasCleanDisk c → IsTrue a.in_transaction → (w : Readings) → AreRight w
      → (h : List Command) → IsHistory w h → HoldsOlder version (tables w h) a.now → report ≡ Sound)
  prepared_sound (Ok told) asked sound = λ clean inside w right h ok holds.
      let u = up.done (clean_before b c (λ _. ⊥) asked.0 clean) inside in
      sound clean w right h ok (holds_migrated version (tables w h) a.now b.now holds u.rows)
  prepared_sound (Err e) asked sound = tt

  pub prepared_survives : {A : Type 0} (r : Result A Fault) → HasAsked b c r → Survives a c (λ _. ⊥)
  prepared_survives (Ok x) it = survives_both a b c up.survives it.0
  prepared_survives (Err e) it = survives_both a b c up.survives it.survives
