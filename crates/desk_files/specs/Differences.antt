-- Why a schema doesn't have a desk's tables: the first difference, in the order in which they are
-- looked for.
use Rattle.std.specs.Prelude.{◌≡◌, ◌==◌, ◌&&◌, ◌||◌, not, ℕ, Bool, true, false, nat_eq, codes}
use Rattle.std.specs.Prelude.{List, [], ◌∷◌, drop, find, length, map, slice_get}
use Rattle.std.specs.Prelude.{Option, Some, None, is_none, is_some, option_and_then}
use Rattle.std.specs.List.{starts_with}
use Rattle.std.specs.Option.{option_map_or, option_or}
use Rattle.std.specs.Str.Lossy.{utf8_lossy}
use Rattle.std.specs.String.{string_bytes}
use Rattle.sqlite_schema.specs.declared.schema.Index.{Index}
use Rattle.sqlite_schema.specs.declared.schema.Schema.{Schema}
use Rattle.sqlite_schema.specs.declared.schema.Table.{Table}
use Rattle.sqlite_schema.specs.declared.schema.View.{View}
use Rattle.sqlite_schema.specs.Names.{index_named, same_name, table_named, view_named}
use Rattle.desk_sql_layout.specs.Desk.{is_harmless}
use Rattle.desk_sql_layout.specs.Layout.{desk_schema}
use Rattle.desk_sql_adopt.specs.Older.{older_tables, table_count}
use Rattle.desk_sql_adopt.specs.declared.older.OlderVersion.{OlderVersion}
use Rattle.desk_sql_adopt.specs.declared.older.OlderVersion.TheVariants.{One, Two}
use Rattle.desk_files.specs.declared.differences.Difference.{Difference}
use Rattle.desk_files.specs.declared.differences.Difference.TheVariants as difference

-- the tables that are looked for: those of this version, or those that all older ones have too
abbrev pub wanted : Bool → List Table
wanted true = older_tables One
wanted false = desk_schema.tables

-- their names
abbrev pub names_of : List Table → List (List ℕ)
names_of = map (λ t. t.name)

-- ---- a table that is missing

-- the first of these names that no table has
abbrev pub missing : Schema → List (List ℕ) → Option (List ℕ)
missing schema = find (λ name. is_none (table_named schema name))

-- what the schema has of a name in place of a table that is read: a view, or a table, an index or a
-- trigger that is kept as it is
abbrev pub kept : Schema → List ℕ → Option View
kept schema name = option_and_then (slice_get schema.views) (view_named schema name)

-- it is a table that would be read without a trigger or an index on it
abbrev pub is_bound : Option View → Bool
is_bound view = option_map_or (λ v. v.is_bound) view false

-- it is a table: its name is that of its own table
abbrev pub is_table : List ℕ → Option View → Bool
is_table name view = option_map_or (λ v. option_map_or (same_name name) v.foreign false) view false

-- why no table has a name, by what else has it
abbrev pub IsLack : List ℕ → Option View → Difference → Type 0
IsLack name view (difference.Missing told) =
    (told.now ≡ name) × (is_bound view ≡ false) × (is_table name view ≡ false)
IsLack name view (difference.Bound told) = (told.now ≡ name) × (is_bound view ≡ true)
IsLack name view (difference.Unread told) =
    (told.now ≡ name) × (is_bound view ≡ false) × (is_table name view ≡ true)
IsLack name view other = ⊥

-- ---- an index that may refuse a row

-- an index of a table that adoption doesn't pass over; those whose names begin with
-- `sqlite_autoindex_` (SQLite's file format, 2.6) belong to the table's keys
unfoldable pub is_refused : Table → Index → Bool
is_refused table index = (index.table == table.tree)
    && not (starts_with nat_eq index.name (codes "sqlite_autoindex_"))
    && not (is_harmless table index)

-- the first one on the table of a name
abbrev pub refused_on : Schema → List ℕ → Option Index
refused_on schema name = option_and_then (λ table. find (is_refused table) schema.indexes)
    (option_and_then (slice_get schema.tables) (table_named schema name))

-- the first one on the tables of these names
abbrev pub refused : Schema → List (List ℕ) → Option Index
refused schema [] = None
refused schema (name ∷ names) = option_or (refused_on schema name) (refused schema names)

-- the first table with a foreign key
abbrev pub with_foreign_key : Schema → Option Table
with_foreign_key schema = find (λ t. not (length t.references == 0)) schema.tables

-- ---- the first difference

-- a table is missing, and this is why
abbrev pub Lacks : Schema → Bool → Difference → Type 0
Lacks schema is_older told = (name : List ℕ)
    × (missing schema (names_of (wanted is_older)) ≡ Some name) × IsLack name (kept schema name) told

-- no table is missing
abbrev pub IsFull : Schema → Bool → Type 0
IsFull schema is_older = missing schema (names_of (wanted is_older)) ≡ None

-- and none has a foreign key
abbrev pub IsAlone : Schema → Bool → Type 0
IsAlone schema is_older = IsFull schema is_older × (with_foreign_key schema ≡ None)

-- and no index on them may refuse a row: one of them is made in another way
abbrev pub IsElsewhere : Schema → Bool → Type 0
IsElsewhere schema is_older =
    IsAlone schema is_older × (refused schema (names_of (wanted is_older)) ≡ None)

-- the first difference; what isn't UTF-8 in a name is replaced
abbrev pub IsFirst : Schema → Bool → Difference → Type 0
IsFirst schema is_older (difference.ForeignKey told) = IsFull schema is_older
    × ((table : Table) × (with_foreign_key schema ≡ Some table)
    × (string_bytes told ≡ utf8_lossy table.name))
IsFirst schema is_older (difference.Index told) = IsAlone schema is_older
    × ((index : Index) × (refused schema (names_of (wanted is_older)) ≡ Some index)
    × (string_bytes told ≡ utf8_lossy index.name))
IsFirst schema is_older difference.Declared = IsElsewhere schema is_older × (is_older ≡ false)
IsFirst schema is_older difference.Older = IsElsewhere schema is_older × (is_older ≡ true)
IsFirst schema is_older told = Lacks schema is_older told

-- it names a table or an index
abbrev pub IsNamed : Difference → Type 0
IsNamed difference.Declared = ⊥
IsNamed difference.Older = ⊥
IsNamed _ = Unit {0}

-- no table is missing, so the rows may be a desk's all the same
abbrev pub may_have_rows : Difference → Bool
may_have_rows (difference.Missing name) = false
may_have_rows _ = true

-- ---- what is in the way of a migration

-- the tables that a version lacks
abbrev pub newer : OlderVersion → List Table
newer version = drop (table_count version) desk_schema.tables

-- a view or an index has this name
abbrev pub is_taken : Schema → List ℕ → Bool
is_taken schema name = is_some (view_named schema name) || is_some (index_named schema name)

-- a table has it
abbrev pub is_there : Schema → List ℕ → Bool
is_there schema name = is_some (table_named schema name)

-- The first name that something else has, of the tables that a migration makes. A table that
-- version 2 has may be the desk's own.
abbrev pub in_the_way : Schema → Option (List ℕ)
in_the_way schema = option_or (find (is_taken schema) (names_of (newer One)))
    (find (is_there schema) (names_of (newer Two)))
