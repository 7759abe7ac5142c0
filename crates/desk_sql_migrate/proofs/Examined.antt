-- What an examination of a database comes to for a migration.
use Rattle.std.proofs.Common.{◌≡◌, ◌≢◌, inl, Ok, Err, Result, IfOk, IfErr, IsTrue, refl}
use Rattle.std.specs.Prelude.{OnOk}
use Rattle.sqlite.specs.State.{State, HasCleanDisk}
use Rattle.desk_model.specs.Tables.{Tables, tables}
use Rattle.desk_model.specs.declared.command.Fault.{Fault}
use Rattle.desk_model.specs.declared.command.Fault.TheVariants.{Memory, Store}
use Rattle.desk_model.specs.declared.command.StoreFault.TheVariants.{Database, Rows}
use Rattle.desk_sql_adopt.specs.Older.{HoldsOlder, IsOlderContent}
use Rattle.desk_sql_adopt.specs.Reading.{HasRead, HasStayed}
use Rattle.desk_sql_adopt.specs.declared.older.OlderContent.{OlderContent}
use Rattle.desk_sql_adopt.specs.declared.older.OlderContent.TheVariants.{Older, Untold, OtherVersion, Other}
use Rattle.desk_sql_adopt.specs.declared.older.OlderVersion.{OlderVersion}
use Rattle.desk_sql_migrate.specs.Migrating.{InOlderHistory, IsFault, IsLeft, IsReason, LeavesSome, older_of}
use Rattle.desk_sql_migrate.proofs.Ending.{undone_by}

pub found_in : (a : State) (r : Result OlderContent Fault) → IfOk r (IsOlderContent a)
    → IfOk (older_of r) (λ version. IsOlderContent a (Older version))
found_in a (Ok (Older version)) it = it
found_in a (Ok Untold) it = tt
found_in a (Ok (OtherVersion n)) it = tt
found_in a (Ok Other) it = tt
found_in a (Err f) it = tt

pub reason_in : (a : State) (r : Result OlderContent Fault) → IfOk r (IsOlderContent a)
    → IfErr r (λ f. f ≢ Store Rows) → IfErr (older_of r) (IsReason a)
reason_in a (Ok (Older version)) it never = tt
reason_in a (Ok Untold) it never = inl (it, refl)
reason_in a (Ok (OtherVersion n)) it never = it
reason_in a (Ok Other) it never = it
reason_in a (Err Memory) it never = tt
reason_in a (Err (Store Database)) it never = tt
reason_in a (Err (Store Rows)) it never = absurd (never refl)

module _ (a b : State) where
  -- an older version is taken for what it is
  abbrev pub Held : Result OlderContent Fault → Type 0
  Held r = HasCleanDisk b → IsTrue a.is_open → IfOk r (λ content. (version : OlderVersion)
      (t : Tables) → HoldsOlder version t a.now → content ≡ Older version)

  pub history_in : (r : Result OlderContent Fault) → Held r
      → IfOk (older_of r) (λ version. (other : OlderVersion)
      → InOlderHistory other (λ w h. version ≡ other) a b)
  history_in (Ok (Older version)) held = λ other w right clean is h ok holds.
      let same = held clean is other (tables w h) holds in cc
  history_in (Ok Untold) held = tt
  history_in (Ok (OtherVersion n)) held = tt
  history_in (Ok Other) held = tt
  history_in (Err f) held = tt

  pub faults_in : (r : Result OlderContent Fault) → Held r
      → IfErr (older_of r) (λ fault. (other : OlderVersion)
      → InOlderHistory other (λ w h. IsFault fault) a b)
  faults_in (Ok (Older version)) held = tt
  faults_in (Ok Untold) held = λ other w right clean is h ok holds.
      absurd (let same = held clean is other (tables w h) holds in cc)
  faults_in (Ok (OtherVersion n)) held = λ other w right clean is h ok holds.
      absurd (let same = held clean is other (tables w h) holds in cc)
  faults_in (Ok Other) held = λ other w right clean is h ok holds.
      absurd (let same = held clean is other (tables w h) holds in cc)
  faults_in (Err f) held = λ other w right clean is h ok holds. tt

  pub stayed_in : (r : Result OlderContent Fault) → HasRead a b r
      → OnOk (older_of r) (HasStayed a b)
  stayed_in (Ok (Older version)) it = it
  stayed_in (Ok Untold) it = tt
  stayed_in (Ok (OtherVersion n)) it = tt
  stayed_in (Ok Other) it = tt
  stayed_in (Err f) it = tt

  pub left_in : (r : Result OlderContent Fault) → HasRead a b r → IfErr (older_of r) (IsLeft a b)
  left_in (Ok (Older version)) it = tt
  left_in (Ok Untold) it = it.0
  left_in (Ok (OtherVersion n)) it = it
  left_in (Ok Other) it = it
  left_in (Err f) it = undone_by (LeavesSome a) a b it
