-- What an examination and an audit of a connection report together.
use Rattle.std.proofs.Common.{◌≡◌, Ok, Err, Result, IfErr, IfOk, subst, sym}
use Rattle.std.specs.Prelude.{IsTrue, OnOk}
use Rattle.sqlite.specs.Effect.{Database as Shown}
use Rattle.sqlite.specs.State.{State, HasCleanDisk, Survives}
use Rattle.desk_sql_layout.specs.Desk.{HasDesk}
use Rattle.desk_sql_layout.proofs.Clean.{clean_before}
use Rattle.desk_sql_adopt.specs.Reading.{HasStayed}
use Rattle.desk_sql_adopt.specs.Version.{IsContent}
use Rattle.desk_sql_adopt.specs.declared.version.Content.TheVariants as content
use Rattle.desk_sql_adopt.proofs.Spared.{kept, spared_then}
use Rattle.desk_access.specs.Seen.{OfRows}
use Rattle.desk_beside.specs.Beside.{IsBeside}
use Rattle.desk_beside.specs.declared.beside.Beside.{Beside}
use Rattle.desk_model.specs.declared.command.Fault.TheVariants.{Memory, Store}
use Rattle.desk_model.specs.declared.command.StoreFault.TheVariants.{Database, Rows}
use Rattle.desk_sql_layout.specs.Held.{seen_of}
use Rattle.desk_snapshot.specs.declared.fault.AuditReport.{AuditReport}
use Rattle.desk_snapshot.specs.declared.fault.AuditReport.TheVariants as report
use Rattle.desk_sql_scan.specs.Scans.{IsSnapshot}
use Rattle.desk_store.specs.Adopting.{IsFinding, IsLeft, IsOfAudit, IsReason}
use Rattle.desk_store.specs.Auditing.{IsSoundDesk, Reports}
use Rattle.desk_store.specs.declared.fault.AdoptFault.{AdoptFault}
use Rattle.desk_store.specs.declared.fault.AdoptFault.TheVariants.{NotADesk, BadVersion, Unsound, Fault}

-- after an audit the disk is as clean as before
pub survived : {A : Type 0} (a b : State) (r : Result A AdoptFault) → OnOk r (HasStayed a b)
    → IfErr r (IsLeft a b) → Survives a b (λ _. ⊥)
survived a b (Ok x) stayed left = stayed.0.survives
survived a b (Err (Fault f)) stayed left = left.survives
survived a b (Err NotADesk) stayed left = left.0.survives
survived a b (Err (BadVersion n)) stayed left = left.0.survives
survived a b (Err (Unsound f)) stayed left = left.0.survives

module _ (old between : State) where
  -- a connection that is unchanged shows what it showed, if it was open
  pub stayed_now : HasStayed old between → HasCleanDisk between → IsTrue old.is_open
      → between.now ≡ old.now
  stayed_now it clean is = it.0.now clean (it.1 clean is)

  reports_before : (told : AuditReport) → between.now ≡ old.now → Reports between told
      → Reports old told
  reports_before told same it = (it.0, subst (IsSnapshot it.0) same it.1, it.2)

  sound_before : between.now ≡ old.now → IsSoundDesk between → IsSoundDesk old
  sound_before same it = (it.0, subst (IsSnapshot it.0) same it.1, it.2, it.3)

  pub reason_after : {A : Type 0} (r : Result A AdoptFault) → IsContent old content.Desk
      → (IsTrue old.is_open → between.now ≡ old.now) → IfErr r IsOfAudit
      → (HasDesk between.now.schema → IfErr r (IsFinding between)) → IfErr r (IsReason old)
  reason_after (Ok x) desk same only told = tt
  reason_after (Err (Unsound f)) desk same only told = (
    desk,
    λ is. reports_before (report.Unsound f) (same is)
        (told (subst (λ (d : Shown). HasDesk d.schema) (sym (same is)) desk.1)),
  )
  reason_after (Err (Fault Memory)) desk same only told = tt
  reason_after (Err (Fault (Store Database))) desk same only told = tt
  reason_after (Err (Fault (Store Rows))) desk same only told = desk
  reason_after (Err NotADesk) desk same only told = absurd only
  reason_after (Err (BadVersion n)) desk same only told = absurd only

  pub passed_after : {A : Type 0} (r : Result A AdoptFault) → IsContent old content.Desk
      → between.now ≡ old.now
      → (HasDesk between.now.schema → OnOk r (IsSoundDesk between))
      → OnOk r (IsSoundDesk old)
  passed_after (Ok x) desk same told = sound_before same
      (told (subst (λ (d : Shown). HasDesk d.schema) (sym same) desk.1))
  passed_after (Err e) desk same told = tt

  -- what is kept beside the rows is kept beside those that were shown first
  pub kept_after : (new : State) (r : Result Beside AdoptFault) → HasStayed old between
      → IfOk r (λ b. OfRows (IsBeside b) (seen_of between) (seen_of new))
      → IfOk r (λ b. OfRows (IsBeside b) (seen_of old) (seen_of new))
  kept_after new (Ok b) stayed it = λ clean t holds.
      it clean t ((kept old between stayed.0).spared.holds t holds)
  kept_after new (Err e) stayed it = tt

  then : {new : State} → HasStayed old between → HasStayed between new → HasStayed old new
  then {new} p q = (
    spared_then old between new p.0 q.0,
    λ clean is. q.1 clean (p.1 (clean_before between new (λ _. ⊥) q.0.survives clean) is),
  )

  pub stayed_after : {A : Type 0} (new : State) (r : Result A AdoptFault) → HasStayed old between
      → OnOk r (HasStayed between new) → OnOk r (HasStayed old new)
  stayed_after new (Ok x) stayed it = then stayed it
  stayed_after new (Err e) stayed it = tt

  pub left_after : {A : Type 0} (new : State) (r : Result A AdoptFault) → HasStayed old between
      → IfErr r (IsLeft between new) → IfErr r (IsLeft old new)
  left_after new (Ok x) stayed left = tt
  left_after new (Err (Fault f)) stayed left = spared_then old between new stayed.0 left
  left_after new (Err NotADesk) stayed left = then stayed left
  left_after new (Err (BadVersion n)) stayed left = then stayed left
  left_after new (Err (Unsound f)) stayed left = then stayed left
