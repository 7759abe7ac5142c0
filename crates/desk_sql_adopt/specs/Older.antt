-- Databases of older versions: what they hold, and what becomes of it. Version 1 has neither the
-- profiles of documents nor the last days of waivers, and version 2 has no last days.
use Rattle.std.specs.Prelude.{◌≡◌, ◌≢◌, ◌⊎◌, ℕ, pos, Bool, true, false, not, ◌==◌, if◌then◌else◌}
use Rattle.std.specs.Prelude.{List, [], ◌∷◌, map, take, Some, None}
use Rattle.std.specs.List.{AllByRecursion, list_all}
use Rattle.sqlite_value.specs.Order.{Row, column}
use Rattle.sqlite_schema.specs.declared.schema.Schema.{Schema}
use Rattle.sqlite_schema.specs.declared.schema.Table.{Table}
use Rattle.sqlite.specs.Effect.{Database, IsDatabase}
use Rattle.sqlite.specs.State.{State}
use Rattle.desk_base.specs.Profiles.{profile_number}
use Rattle.desk_model.specs.Tables.{Tables}
use Rattle.desk_model.specs.Moves.{is_waiver}
use Rattle.desk_sql_layout.specs.Cells.{number}
use Rattle.desk_sql_layout.specs.Desk.{HasTable}
use Rattle.desk_sql_layout.specs.Held.{AreOrderly, labelled, rows_of}
use Rattle.desk_sql_layout.specs.Layout.{desk_schema, meta_table, document_table, reading_table, waiver_table}
use Rattle.desk_sql_layout.specs.Stored.{AreStored}
use Rattle.desk_sql_adopt.specs.Version.{TellsVersion, has_version}
use Rattle.desk_sql_adopt.specs.declared.older.OlderVersion.{OlderVersion}
use Rattle.desk_sql_adopt.specs.declared.older.OlderVersion.TheVariants.{One, Two}
use Rattle.desk_sql_adopt.specs.declared.older.OlderContent.{OlderContent}
use Rattle.desk_sql_adopt.specs.declared.older.OlderContent.TheVariants.{Older, Untold, OtherVersion, Other}

-- what `meta` gives as its number
abbrev pub version_number : OlderVersion → ℕ
version_number One = 1
version_number Two = 2

-- how many tables the version has
abbrev pub table_count : OlderVersion → ℕ
table_count One = 14
table_count Two = 15

-- the first tables of a desk
abbrev pub older_tables : OlderVersion → List Table
older_tables version = take (table_count version) desk_schema.tables

-- the schema has these tables of a desk, and no table of it has foreign keys
pub record HasTables (tables : List Table) (schema : Schema) : Type 0 where
  pub each : AllByRecursion (HasTable schema) tables
  pub alone : AllByRecursion (λ t. t.references ≡ []) schema.tables

-- it has the tables of that version, whatever else it has
unfoldable pub HasOlder : OlderVersion → Schema → Type 0
HasOlder version = HasTables (older_tables version)

-- the database has the tables of that version, with these rows in any order
pub record HasOlderRows (version : OlderVersion) (rows : ℕ → List Row)
    (db : Database) : Type 0 where
  pub declared : HasOlder version db.schema
  pub stored : AllByRecursion (λ t. AreStored t (rows t.tree) (labelled db t.tree))
      (older_tables version)
  pub sound : IsDatabase db

-- the rows, as cells, of the table with this tree, for a desk's tables in a database of that
-- version
abbrev pub older_rows : OlderVersion → Tables → ℕ → List Row
older_rows version t tree = if tree == meta_table.tree
    then (number (version_number version) ∷ []) ∷ [] else rows_of t tree

-- The database holds these tables as that version has them: none of their waivers ends, and in
-- version 1 the profile of each document is 1.
pub record HoldsOlder (version : OlderVersion) (t : Tables) (db : Database) : Type 0 where
  pub rows : HasOlderRows version (older_rows version t) db
  pub orderly : AreOrderly t
  pub endless : list_all (λ row. not (is_waiver row)) t.changes ≡ true
  pub profiles : version ≡ One → list_all (λ row. profile_number row.profile == 1) t.document ≡ true

-- the profile of each document is 1
abbrev pub first_readings : List Row → List Row
first_readings = map (λ document. column document 0 ∷ number 1 ∷ [])

-- the profiles that are missing
abbrev pub readings_for : OlderVersion → (ℕ → List Row) → List Row
readings_for One rows = first_readings (rows document_table.tree)
readings_for Two rows = rows reading_table.tree

-- What the rows become: the version is 3, a document without a profile gets profile 1, no waiver
-- ends, and all else stays as it is.
abbrev pub migrated : OlderVersion → (ℕ → List Row) → ℕ → List Row
migrated version rows tree =
    if tree == meta_table.tree then (number 3 ∷ []) ∷ []
    else (if tree == reading_table.tree then readings_for version rows
    else (if tree == waiver_table.tree then [] else rows tree))

-- whether a schema has the tables of that version, by whether it has those of each
abbrev pub declares : Bool → Bool → OlderVersion → Bool
declares first second One = first
declares first second Two = second

-- What a database is to a migration: the tables of an older version; a table `meta` that gives no
-- single version; another version; or something else, if there is no table `meta`, or if it gives
-- an older version but the tables of this version aren't there.
abbrev pub IsOlderContent : State → OlderContent → Type 0
IsOlderContent s (Older version) = TellsVersion (Some (pos (version_number version))) s
    × HasOlder version s.now.schema
IsOlderContent s Untold = TellsVersion None s × (has_version s.now.schema ≡ true)
IsOlderContent s (OtherVersion n) = TellsVersion (Some n) s × (n ≢ pos 1) × (n ≢ pos 2)
    × (has_version s.now.schema ≡ true)
IsOlderContent s Other =
    (has_version s.now.schema ≡ false)
    ⊎ ((version : OlderVersion) × TellsVersion (Some (pos (version_number version))) s
    × (¬ HasOlder version s.now.schema))
