-- The version that a database gives for its tables, and what it is taken for.
use Rattle.std.specs.Prelude.{◌≡◌, ◌≢◌, ◌⊎◌, ℕ, ℤ, pos, Bool, true, false, ◌&&◌, List, [], ◌∷◌}
use Rattle.std.specs.Prelude.{codes, Option, Some, None}
use Rattle.std.specs.List.{list_any}
use Rattle.sqlite_value.specs.declared.value.Value.{Value}
use Rattle.sqlite_value.specs.declared.value.Value.TheVariants.{Int}
use Rattle.sqlite_value.specs.Order.{Row, column}
use Rattle.sqlite_schema.specs.declared.schema.Table.{Table}
use Rattle.sqlite_schema.specs.declared.schema.Schema.{Schema}
use Rattle.sqlite_schema.specs.Names.{same_name}
use Rattle.sqlite.specs.State.{State, Shown}
use Rattle.desk_sql_layout.specs.Desk.{HasDesk}
use Rattle.desk_sql_adopt.specs.Reading.{Answers}
use Rattle.desk_sql_adopt.specs.declared.version.Content.{Content}
use Rattle.desk_sql_adopt.specs.declared.version.Content.TheVariants.{Desk, OtherVersion, Other}

-- a table `meta` with a column `version`
abbrev pub is_meta : Table → Bool
is_meta table = same_name table.name (codes "meta")
    && list_any (λ column. same_name column.name (codes "version")) table.columns

-- one of the schema's tables is such a table; its name compares without case, as in SQL
abbrev pub has_version : Schema → Bool
has_version schema = list_any is_meta schema.tables

-- the query by which the version is asked for
abbrev pub version_text : List ℕ
version_text = codes "SELECT version FROM meta"

-- an INTEGER of 64 bits, of either sign; no other value is a version
abbrev pub whole_number : Value → Option ℤ
whole_number (Int n) = Some n
whole_number _ = None

-- one row, with a whole number
abbrev pub version_in : List Row → Option ℤ
version_in (row ∷ []) = whole_number (column row 0)
version_in _ = None

-- the database answers with this version when it is asked, or with no single whole number if there
-- is no version
abbrev pub TellsVersion : Option ℤ → State → Type 0
TellsVersion version s = (rows : List Row) × Answers version_text [] s rows
    × (version_in rows ≡ version)

-- the same for what a query for the version shows
abbrev pub ShowsVersion : Option ℤ → State → State → Type 0
ShowsVersion version old new = (rows : List Row) × Shown version_text [] old new rows
    × (version_in rows ≡ version)

-- no other version is given
abbrev pub TellsNoOther : State → Type 0
TellsNoOther s = TellsVersion (Some (pos 3)) s ⊎ TellsVersion None s

-- What a database is taken for: a desk by its tables, if it gives no other version; a database of
-- another version by that alone; and else something else.
abbrev pub IsContent : State → Content → Type 0
IsContent s Desk = TellsNoOther s × HasDesk s.now.schema
IsContent s (OtherVersion n) = TellsVersion (Some n) s × (n ≢ pos 3)
    × (has_version s.now.schema ≡ true)
IsContent s Other = (has_version s.now.schema ≡ false)
    ⊎ (TellsNoOther s × (¬ HasDesk s.now.schema))
