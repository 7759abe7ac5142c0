-- A migration's transaction, from its beginning to its end.
use Rattle.std.proofs.Common.{◌≡◌, true, false, IsTrue, Ok, sym, subst}
use Rattle.desk_sql_layout.proofs.Clean.{clean_before}
use Rattle.sqlite_trees.specs.declared.store.Store.{Ghosts}
use Rattle.sqlite.specs.declared.error.Error.{Error}
use Rattle.sqlite.specs.Effect.{IsDatabase}
use Rattle.sqlite.specs.Held.{Held, state}
use Rattle.sqlite.specs.State.{HasCleanDisk, IsRolledBack, KeepsCommit, Shows, Survives}
use Rattle.sqlite.specs.Steps.{FailsToCommit}
use Rattle.sqlite.proofs.Callers.{survives_begin}
use Rattle.desk_sql_adopt.specs.Older.{HasOlder}
use Rattle.desk_sql_adopt.specs.Reading.{IsSpared}
use Rattle.desk_sql_adopt.specs.declared.older.OlderVersion.{OlderVersion}
use Rattle.desk_snapshot.specs.declared.fault.AuditFault.{AuditFault}
use Rattle.desk_snapshot.specs.declared.fault.AuditReport.{AuditReport}
use Rattle.desk_snapshot.specs.declared.fault.AuditReport.TheVariants.{Sound, Unsound}
use Rattle.desk_sql_migrate.specs.Migrating.{Ends, IsReportOn, IsUndone, Leaves, LeavesMigrated, Prepared}
use Rattle.desk_sql_migrate.proofs.Ending.{commit_failed, committed_as, dropped, left_committed}

-- `begun` is the connection when the transaction begins, `last` when it ends, and `final` what
-- becomes of it, which is `given` back
module _ {S : Type 0} (g : Ghosts S) (first last : Held S) {begun : Held S}
    (is : begun ≡ record first { in_transaction = true })
    (settled : IsTrue (state g first).is_open → (state g first).now ≡ (state g first).committed)
    (survives : Survives (state g begun) (state g last) (λ _. ⊥)) (final given : Held S)
    (same : final ≡ given) where
  since : Survives (state g first) (state g last) (λ _. ⊥)
  since = survives_begin g first (state g last) _ (rw is at survives)

  -- it was dropped
  pub spared_since : (HasCleanDisk (state g last) → IsTrue (state g begun).in_transaction
      → KeepsCommit (state g begun) (state g last))
      → Survives (state g last) (state g final) (λ _. ⊥)
      → (HasCleanDisk (state g final) → IsRolledBack (state g last) (state g final))
      → IsSpared (state g first) (state g given)
  spared_since kept next undone =
      let so : HasCleanDisk (state g last) → KeepsCommit (state g first) (state g last) = λ clean.
      let it = rw is at (kept clean (rw is)) in
      record { was_open = it.was_open; committed = it.committed } in
      subst (λ h. IsSpared (state g first) (state g h)) same
      (dropped (state g first) (state g last) (state g final) settled since so next undone)

  module _ (live : IsTrue (state g first).is_open → IsDatabase (state g first).now)
      (version : OlderVersion) (told : AuditReport)
      (made : HasCleanDisk (state g last) → IsTrue (state g begun).in_transaction
      → Prepared version told (state g begun) (state g last)) where
    prepared : HasCleanDisk (state g last) → Prepared version told (state g first) (state g last)
    prepared clean =
        let it = rw is at (made clean (rw is)) in
        record {
          was_open = it.was_open;
          inside = it.inside;
          kept = record { was_open = it.kept.was_open; committed = it.kept.committed };
          rows = it.rows;
          report = it.report;
        }

    kept : HasCleanDisk (state g last) → KeepsCommit (state g first) (state g last)
    kept clean = (prepared clean).kept

    -- the schema that was shown first
    abbrev pub IsOlder : Type 0
    IsOlder = IsTrue (state g first).is_open → HasOlder version (state g first).now.schema

    -- it was to be committed
    module _ (sound : told ≡ Sound)
        (next : Survives (state g last) (state g final) (λ db. db ≡ (state g last).now.trees)) where
      pub committed_since : (HasCleanDisk (state g final)
          → Shows (state g last) (state g final) (state g last).now (state g last).now false)
          → HasCleanDisk (state g given) → IsOlder
          → Ends version (state g first) (state g given) told
      committed_since shows clean has =
          let ends = committed_as (state g first) (state g last) (state g final) settled since kept
          live version told prepared next sound shows
          (subst (λ h. HasCleanDisk (state g h)) (sym same) clean) has in
          subst (λ h. Ends version (state g first) (state g h) told) same
          (subst (Ends version (state g first) (state g final)) (sym sound) ends)

      pub left_since : Leaves version (state g first) (state g given) (Ok told)
      left_since =
          let left = left_committed (state g first) (state g last) (state g final) settled since
          kept live version told prepared next sound in
          subst (λ h. Leaves version (state g first) (state g h) (Ok told)) same
          (subst (λ told. Leaves version (state g first) (state g final) (Ok told)) (sym sound)
          left)

      pub failed_since : (e : Error)
          → (HasCleanDisk (state g final) → FailsToCommit (state g last) (state g final) e)
          → IsUndone (LeavesMigrated version (state g first)) (state g first) (state g given)
      failed_since e fails =
          subst (λ h. IsUndone (LeavesMigrated version (state g first)) (state g first) (state g h))
          same
          (commit_failed (state g first) (state g last) (state g final) settled since kept live
          version told prepared next sound e fails)

    -- it was dropped, because the rows weren't sound
    module _ {f : AuditFault} (unsound : told ≡ Unsound f)
        (next : Survives (state g last) (state g final) (λ _. ⊥)) where
      pub unsound_since : HasCleanDisk (state g given) → IsOlder
          → Ends version (state g first) (state g given) told
      unsound_since clean has =
          let it = prepared (clean_before (state g last) (state g final) (λ _. ⊥) next
          (subst (λ h. HasCleanDisk (state g h)) (sym same) clean)) in
          let ends : Ends version (state g first) (state g given) (Unsound f) = (
            (state g last).now,
            it.rows,
            subst (IsReportOn (state g last).now) unsound (it.report (has it.was_open) (live it.was_open)),
          ) in
          subst (Ends version (state g first) (state g given)) (sym unsound) ends

      pub dropped_since : (HasCleanDisk (state g final)
          → IsRolledBack (state g last) (state g final))
          → Leaves version (state g first) (state g given) (Ok told)
      dropped_since undone =
          subst (λ told. Leaves version (state g first) (state g given) (Ok told)) (sym unsound)
          (spared_since (λ clean inside. (made clean inside).kept) next undone)
