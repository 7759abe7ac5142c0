-- What an examination and an audit come to for an adoption.
use Rattle.std.proofs.Common.{◌≡◌, ◌≢◌, Ok, Err, Result, IfOk, IfErr, IsTrue, refl, subst}
use Rattle.std.specs.Prelude.{OnOk}
use Rattle.sqlite.specs.State.{State}
use Rattle.desk_model.specs.Tables.{Tables, tables}
use Rattle.desk_model.specs.declared.command.Fault.{Fault}
use Rattle.desk_model.specs.declared.command.Fault.TheVariants.{Memory, Store}
use Rattle.desk_model.specs.declared.command.StoreFault.TheVariants.{Database, Rows}
use Rattle.desk_access.specs.Seen.{OfRows}
use Rattle.desk_core.specs.Desks.{InHistory}
use Rattle.desk_beside.specs.Beside.{IsAudited, IsBeside, report_of}
use Rattle.desk_beside.specs.declared.beside.Audited.{Audited}
use Rattle.desk_beside.specs.declared.beside.Audited.TheVariants as audited
use Rattle.desk_model.specs.Readings.{Readings}
use Rattle.desk_snapshot.specs.Reports.{IsReport}
use Rattle.desk_snapshot.specs.declared.fault.AuditReport.TheVariants.{Sound}
use Rattle.desk_snapshot.specs.declared.snapshot.Snapshot.{Snapshot}
use Rattle.desk_sql_layout.specs.Causes.{HasCause, HasCauseIf}
use Rattle.desk_sql_layout.specs.Held.{seen_of}
use Rattle.desk_sql_adopt.specs.Reading.{HasRead, HasStayed}
use Rattle.desk_sql_adopt.specs.Version.{IsContent}
use Rattle.desk_sql_adopt.specs.declared.version.Content.{Content}
use Rattle.desk_sql_adopt.specs.declared.version.Content.TheVariants.{Desk, OtherVersion, Other}
use Rattle.desk_sql_scan.specs.Parts.{AreRowsOf}
use Rattle.desk_sql_scan.specs.Scans.{IsSnapshot}
use Rattle.desk_sql_migrate.proofs.Kept.{shows_tables}
use Rattle.desk_texts.specs.Right.{AreRight}
use Rattle.desk_store.specs.Adopting.{IsBesideIfSound, IsFault, IsFinding, IsFoundIn, IsLeft, IsOfAudit}
use Rattle.desk_store.specs.Adopting.{IsReason, adoption_of, desk_of}
use Rattle.desk_store.specs.Auditing.{IsSoundDesk}
use Rattle.desk_store.specs.Causes.{AdoptFailsFor, AdoptFailsIf, AreRecorded}
use Rattle.desk_store.proofs.Adopting.{fault_adopts, never_adopts}

-- ---- what the database holds

pub desk_in : (a : State) (r : Result Content Fault) → IfOk r (IsContent a)
    → OnOk (desk_of r) (IsContent a Desk)
desk_in a (Ok Desk) it = it
desk_in a (Ok (OtherVersion n)) it = tt
desk_in a (Ok Other) it = tt
desk_in a (Err f) it = tt

pub reason_in : (a : State) (r : Result Content Fault) → IfOk r (IsContent a)
    → IfErr r (λ f. f ≢ Store Rows) → IfErr (desk_of r) (IsReason a)
reason_in a (Ok Desk) it never = tt
reason_in a (Ok (OtherVersion n)) it never = it
reason_in a (Ok Other) it never = it
reason_in a (Err Memory) it never = tt
reason_in a (Err (Store Database)) it never = tt
reason_in a (Err (Store Rows)) it never = absurd (never refl)

module _ (a b : State) where
  -- a desk is taken for what it is
  abbrev pub IsTaken : Result Content Fault → Type 0
  IsTaken r = IfOk r (λ content. IsTrue a.is_open
      → OfRows (λ t. content ≡ Desk) (seen_of a) (seen_of b))

  pub held_in : (r : Result Content Fault) → IsTaken r
      → IfErr (desk_of r) (λ fault. IsTrue a.is_open
      → OfRows (λ t. IsFault fault) (seen_of a) (seen_of b))
  held_in (Ok Desk) it = tt
  held_in (Ok (OtherVersion n)) it = λ is clean t holds.
      absurd (let e = it is clean t holds in cc)
  held_in (Ok Other) it = λ is clean t holds. absurd (let e = it is clean t holds in cc)
  held_in (Err f) it = λ is clean t holds. tt

  pub stayed_in : (r : Result Content Fault) → HasRead a b r → OnOk (desk_of r) (HasStayed a b)
  stayed_in (Ok Desk) it = it
  stayed_in (Ok (OtherVersion n)) it = tt
  stayed_in (Ok Other) it = tt
  stayed_in (Err f) it = tt

  pub left_in : (r : Result Content Fault) → HasRead a b r → IfErr (desk_of r) (IsLeft a b)
  left_in (Ok Desk) it = tt
  left_in (Ok (OtherVersion n)) it = it
  left_in (Ok Other) it = it
  left_in (Err f) it = it

  pub cause_in : (r : Result Content Fault) → IsTaken r → IfErr r (HasCause a b)
      → IfErr (desk_of r) (AdoptFailsIf (λ t. Unit {0}) a b)
  cause_in (Ok Desk) it cause = tt
  cause_in (Ok (OtherVersion n)) it cause = never_adopts _ _ _ _
      (λ clean opened t holds any. let e = it opened clean t holds in cc)
  cause_in (Ok Other) it cause = never_adopts _ _ _ _
      (λ clean opened t holds any. let e = it opened clean t holds in cc)
  cause_in (Err f) it cause = fault_adopts _ _ _ _ cause

-- ---- what an audit finds

pub found_in : (a : State) (s : Snapshot) (found : Audited) → IsSnapshot s a.now
    → ((w : Readings) → AreRight w → IsReport w s (report_of found)) → IsAudited s found
    → IsFoundIn a found
found_in a s (audited.Sound kept) has report it = (s, has, it.0, report)
found_in a s (audited.Unsound f) has report it = (s, has, report)

pub beside_in : (s : Snapshot) (found : Audited) → IsAudited s found → (t : Tables)
    → AreRowsOf s t → IsBesideIfSound found t
beside_in s (audited.Sound kept) it t rows = it.1 t (shows_tables s t rows)
beside_in s (audited.Unsound f) it t rows = tt

pub only_of : (r : Result Audited Fault) → IfErr (adoption_of r) IsOfAudit
only_of (Ok (audited.Sound kept)) = tt
only_of (Ok (audited.Unsound f)) = tt
only_of (Err f) = tt

pub told_of : (a : State) (r : Result Audited Fault) → IfOk r (IsFoundIn a)
    → IfErr (adoption_of r) (IsFinding a)
told_of a (Ok (audited.Sound kept)) it = tt
told_of a (Ok (audited.Unsound f)) it = it
told_of a (Err f) it = tt

pub passed_of : (a : State) (r : Result Audited Fault) → IfOk r (IsFoundIn a)
    → OnOk (adoption_of r) (IsSoundDesk a)
passed_of a (Ok (audited.Sound kept)) it = it
passed_of a (Ok (audited.Unsound f)) it = tt
passed_of a (Err f) it = tt

module _ (a b : State) where
  pub kept_of : (r : Result Audited Fault)
      → IfOk r (λ found. OfRows (IsBesideIfSound found) (seen_of a) (seen_of b))
      → IfOk (adoption_of r) (λ kept. OfRows (IsBeside kept) (seen_of a) (seen_of b))
  kept_of (Ok (audited.Sound kept)) it = it
  kept_of (Ok (audited.Unsound f)) it = tt
  kept_of (Err f) it = tt

  pub stayed_of : (r : Result Audited Fault) → HasRead a b r
      → OnOk (adoption_of r) (HasStayed a b)
  stayed_of (Ok (audited.Sound kept)) it = it
  stayed_of (Ok (audited.Unsound f)) it = tt
  stayed_of (Err f) it = tt

  pub left_of : (r : Result Audited Fault) → HasRead a b r → IfErr (adoption_of r) (IsLeft a b)
  left_of (Ok (audited.Sound kept)) it = tt
  left_of (Ok (audited.Unsound f)) it = it
  left_of (Err f) it = it

  -- the tables of recorded histories are sound
  abbrev pub AreSound : Result Audited Fault → Type 0
  AreSound r = IfOk r (λ found. InHistory AreRight (λ w h. report_of found ≡ Sound) (seen_of a)
      (seen_of b))

  pub sound_of : (r : Result Audited Fault) → AreSound r
      → IfErr (adoption_of r) (λ fault. InHistory AreRight (λ w h. IsFault fault) (seen_of a)
      (seen_of b))
  sound_of (Ok (audited.Sound kept)) it = tt
  sound_of (Ok (audited.Unsound f)) it = λ w right clean h ok holds.
      absurd (let e = it w right clean h ok holds in cc)
  sound_of (Err f) it = λ w right clean h ok holds. tt

  pub cause_of : (r : Result Audited Fault) → AreSound r → IfErr r (HasCauseIf AreRecorded a b)
      → IfErr (adoption_of r) (AdoptFailsFor a b)
  cause_of (Ok (audited.Sound kept)) it cause = tt
  cause_of (Ok (audited.Unsound f)) it cause = never_adopts AreRecorded _ _ _
      (λ clean opened t holds recorded.
      let e = it recorded.w recorded.right clean recorded.h recorded.history
      (subst (λ u. (seen_of a).holds u) recorded.is holds) in cc)
  cause_of (Err f) it cause = fault_adopts AreRecorded _ _ _ cause
