-- How a migration ends: with a report on its rows, committed or dropped.
use Rattle.std.proofs.Common.{◌≡◌, ℕ, List, [], ◌∷◌, map, filter, Bool, true, false, not}
use Rattle.std.proofs.Common.{refl, sym, ap, subst, arith}
use Rattle.std.specs.Prelude.{◌==◌, if◌then◌else◌}
use Rattle.std.specs.List.{list_all}
use Rattle.std.proofs.lemmas.Bool.{and_parts}
use Rattle.std.proofs.lemmas.Bool.Decides.{nat_tests}
use Rattle.sqlite_value.specs.Order.{Row}
use Rattle.sqlite.specs.Effect.{Database}
use Rattle.desk_base.specs.Profiles.{profile_number}
use Rattle.desk_model.specs.Readings.{Readings}
use Rattle.desk_model.specs.Tables.{Tables}
use Rattle.desk_model.specs.declared.row.ChangeRow.{ChangeRow}
use Rattle.desk_model.specs.declared.row.DocumentRow.{DocumentRow}
use Rattle.desk_model.specs.Moves.{is_waiver}
use Rattle.desk_sql_layout.specs.Cells.{number, document_cells, reading_cells, waiver_cells}
use Rattle.desk_sql_layout.specs.Held.{Holds, labelled, rows_of}
use Rattle.desk_sql_layout.specs.Layout.{desk_schema}
use Rattle.desk_sql_layout.specs.Stored.{AllStored}
use Rattle.desk_sql_adopt.specs.Older.{HoldsOlder, first_readings, older_rows}
use Rattle.desk_sql_adopt.specs.declared.older.OlderVersion.{OlderVersion}
use Rattle.desk_sql_adopt.specs.declared.older.OlderVersion.TheVariants.{One, Two}
use Rattle.desk_snapshot.specs.Reports.{IsReport, Meets}
use Rattle.desk_snapshot.specs.declared.fault.AuditFault.{AuditFault}
use Rattle.desk_snapshot.specs.declared.fault.AuditReport.{AuditReport}
use Rattle.desk_snapshot.specs.declared.fault.AuditReport.TheVariants.{Sound, Unsound}
use Rattle.desk_snapshot.specs.declared.snapshot.Snapshot.{Snapshot}
use Rattle.desk_sql_migrate.specs.Steps.{Becomes}

pub is_sound : (w : Readings) (s : Snapshot) (report : AuditReport)
    → ((f : AuditFault) → Meets w s f)
    → IsReport w s report → report ≡ Sound
is_sound w s Sound all it = refl
is_sound w s (Unsound f) all it = absurd (it.0 (all f))

pub is_sound_as : (w : Readings) (s other : Snapshot) (report : AuditReport) → s ≡ other
    → ((f : AuditFault) → Meets w other f) → IsReport w s report → report ≡ Sound
is_sound_as w s other report same all it = is_sound w s report
    (λ f. subst (λ x. Meets w x f) (sym same) (all f)) it

-- ---- the rows of a desk's tables, migrated, are theirs

no_waivers : (rows : List ChangeRow) → list_all (λ row. not (is_waiver row)) rows ≡ true
    → [] ≡ map waiver_cells (filter is_waiver rows)
no_waivers [] h = refl
no_waivers (row ∷ rows) h =
    let parts = and_parts (not (is_waiver row)) (list_all (λ row. not (is_waiver row)) rows) h in
    go (is_waiver row) refl parts.0 (no_waivers rows parts.1)
  where
    go : (b : Bool) → is_waiver row ≡ b → not (is_waiver row) ≡ true
        → [] ≡ map waiver_cells (filter is_waiver rows)
        → [] ≡ map waiver_cells (filter is_waiver (row ∷ rows))
    go true is some rest = absurd (let e = rw is at some in cc)
    go false is some rest = rw is rest

one_profile : (row : DocumentRow) → (profile_number row.profile == 1) ≡ true
    → number 1 ≡ number (profile_number row.profile)
one_profile row h = let e : 1 ≡ profile_number row.profile = grind (arith, nat_tests) in ap number e

first_profiles : (rows : List DocumentRow)
    → list_all (λ row. profile_number row.profile == 1) rows ≡ true
    → first_readings (map document_cells rows) ≡ map reading_cells rows
first_profiles [] h = refl
first_profiles (row ∷ rows) h =
    let parts = and_parts (profile_number row.profile == 1)
    (list_all (λ row. profile_number row.profile == 1) rows) h in
    rw (← one_profile row parts.0, first_profiles rows parts.1) refl

module _ (t : Tables) (db : Database) where
  abbrev with_these : List Row → List Row → ℕ → List Row
  with_these readings waivers tree = if tree == 27 then readings
      else (if tree == 28 then waivers else rows_of t tree)

  same_rows : (version : OlderVersion) (readings waivers : List Row)
      → readings ≡ map reading_cells t.document
      → waivers ≡ map waiver_cells (filter is_waiver t.changes)
      → AllStored desk_schema (with_these readings waivers) (labelled db)
      → AllStored desk_schema (rows_of t) (labelled db)
  same_rows version readings waivers is_readings is_waivers stored =
      subst (λ w. AllStored desk_schema (with_these (map reading_cells t.document) w) (labelled db))
      is_waivers
      (subst (λ r. AllStored desk_schema (with_these r waivers) (labelled db)) is_readings stored)

pub holds_migrated : (version : OlderVersion) (t : Tables) (old new : Database)
    → HoldsOlder version t old → Becomes version old new → Holds t new
holds_migrated One t old new holds becomes =
    let has = becomes (older_rows One t) holds.rows in
    record {
      rows = record {
        declared = has.declared;
        stored = same_rows t new One (first_readings (map document_cells t.document)) []
            (first_profiles t.document (holds.profiles refl)) (no_waivers t.changes holds.endless)
            has.stored;
        sound = has.sound;
      };
      orderly = holds.orderly;
    }
holds_migrated Two t old new holds becomes =
    let has = becomes (older_rows Two t) holds.rows in
    record {
      rows = record {
        declared = has.declared;
        stored = same_rows t new Two (map reading_cells t.document) [] refl
            (no_waivers t.changes holds.endless) has.stored;
        sound = has.sound;
      };
      orderly = holds.orderly;
    }

-- the same, if the version is one that was read
pub holds_older : (version other : OlderVersion) (t : Tables) (old new : Database)
    → version ≡ other → HoldsOlder other t old → Becomes version old new → Holds t new
holds_older version other t old new same holds becomes = holds_migrated other t old new holds
    (subst (λ v. Becomes v old new) same becomes)
