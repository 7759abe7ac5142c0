-- When a schema has the desk's tables, whatever else it has.
use Rattle.std.specs.Prelude.{◌≡◌, ◌==◌, ◌+◌, ◌^◌, ◌&&◌, ◌||◌, not, nat_le, ℕ, Bool}
use Rattle.std.specs.Prelude.{true, false, if◌then◌else◌}
use Rattle.std.specs.Prelude.{List, [], ◌∷◌, length, find, slice_get, Option, Some, option_map}
use Rattle.std.specs.Prelude.{option_and_then, unwrap_or}
use Rattle.std.specs.List.{AllByRecursion, list_all, list_any}
use Rattle.sqlite_value.specs.declared.keys.Order.{Order}
use Rattle.sqlite_value.specs.Keys.{collation_code, first_key, later}
use Rattle.sqlite_schema.specs.declared.schema.Column.{Column}
use Rattle.sqlite_schema.specs.declared.schema.Index.{Index}
use Rattle.sqlite_schema.specs.declared.schema.Schema.{Schema}
use Rattle.sqlite_schema.specs.declared.schema.Table.{Table}
use Rattle.sqlite_schema.specs.Names.{is_key, table_named}
use Rattle.desk_sql_layout.specs.Layout.{desk_schema}

-- NOT NULL on the column that is the rowid says nothing, since it never is NULL
abbrev pub columns_with : Option ℕ → Bool → ℕ → List Column → List Column
columns_with key not_null at [] = []
columns_with key not_null at (c ∷ cs) =
    (if is_key key at then record c { not_null = not_null } else c)
    ∷ columns_with key not_null (at + 1) cs

-- a table of the desk in a tree of its own
abbrev pub found_as : Table → ℕ → Bool → Table
found_as table tree not_null = record table {
  tree = tree;
  columns = columns_with table.key not_null 0 table.columns;
}

-- each of so many columns is compared byte by byte
abbrev pub is_bytewise : List ℕ → Order → Bool
is_bytewise [] order = true
is_bytewise (place ∷ places) order =
    (collation_code (first_key order).collation == 0) && is_bytewise places (later order)

-- each of these places is among the others
abbrev pub includes : List ℕ → List ℕ → Bool
includes places = list_all (λ place. list_any (λ other. other == place) places)

-- An index refuses no row that the keys of its table let in: if it is UNIQUE, it repeats or extends
-- one of them. Its entries have at most 8 columns.
abbrev pub is_harmless : Table → Index → Bool
is_harmless table index =
    nat_le (length index.columns) 8
    && (not index.is_unique || (is_bytewise index.columns index.order
    && list_any (includes index.columns) (table.primary ∷ table.uniques)))

-- The schema has this table of the desk: by its name, with its columns by name, kind and NULL, with
-- its key and its UNIQUE columns, in a stored tree that no other table has.
pub record HasTable (schema : Schema) (table : Table) : Type 0 where
  pub place : ℕ
  pub tree : ℕ
  pub not_null : Bool
  pub named : table_named schema table.name ≡ Some place
  pub listed : slice_get schema.tables place ≡ Some (found_as table tree not_null)
  pub own : find (λ t. t.tree == tree) schema.tables ≡ Some (found_as table tree not_null)
  pub stored : nat_le (2 ^ 31) tree ≡ false
  pub harmless : list_all (λ index. not (index.table == tree) || is_harmless table index)
      schema.indexes ≡ true

-- It has each table of the desk, and no table has foreign keys. Other tables, their indexes and
-- views are the file's own.
pub record IsDesk (schema : Schema) : Type 0 where
  pub tables : AllByRecursion (HasTable schema) desk_schema.tables
  pub alone : AllByRecursion (λ t. t.references ≡ []) schema.tables

-- the same, kept shut so that goals stay small
unfoldable pub HasDesk : Schema → Type 0
HasDesk = IsDesk

-- the tree of the table of this name
abbrev pub tree_named : Schema → List ℕ → ℕ
tree_named schema name =
    unwrap_or (option_map (λ t. t.tree) (option_and_then (slice_get schema.tables)
    (table_named schema name))) 0

-- the name of the desk's table that has this tree where the file has no other tables
abbrev pub name_of : ℕ → List ℕ
name_of tree =
    unwrap_or (option_map (λ t. t.name) (find (λ t. t.tree == tree) desk_schema.tables)) []

-- the tree that it has in a schema
unfoldable pub tree_in : Schema → ℕ → ℕ
tree_in schema tree = tree_named schema (name_of tree)
