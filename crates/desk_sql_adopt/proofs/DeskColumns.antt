-- A schema that has the desk's tables has its columns, and a version.
use Rattle.std.proofs.Common.{◌≡◌, ℕ, Bool, true, false, List, [], ◌∷◌, refl, ap₂, ◌∙◌}
use Rattle.std.proofs.Common.{Option, inl}
use Rattle.std.specs.Prelude.{◌+◌, ◌&&◌, ◌||◌, if◌then◌else◌}
use Rattle.std.specs.List.{list_any}
use Rattle.sqlite_schema.specs.declared.schema.Column.{Column}
use Rattle.sqlite_schema.specs.declared.schema.Schema.{Schema}
use Rattle.sqlite_schema.specs.declared.schema.Table.{Table}
use Rattle.sqlite_schema.specs.Names.{is_key, same_name}
use Rattle.sqlite_catalog.proofs.StepLemmas.{same_itself}
use Rattle.sqlite_rules.specs.Lists.{Has}
use Rattle.sqlite_rules.proofs.ListLemmas.{some_from, test_from}
use Rattle.desk_sql_layout.specs.Desk.{HasDesk, columns_with, found_as}
use Rattle.desk_sql_layout.specs.Layout.{desk_schema, meta_table}
use Rattle.desk_sql_layout.proofs.Declared.{actual, entry, in_tables}
use Rattle.desk_sql_adopt.specs.Columns.{has_columns, is_like}
use Rattle.desk_sql_adopt.specs.Version.{has_version, is_meta}

-- NOT NULL changes no name
any_named : (name : List ℕ) (key : Option ℕ) (not_null : Bool) (at : ℕ) (cs : List Column)
    → list_any (λ (other : Column). same_name other.name name) (columns_with key not_null at cs)
    ≡ list_any (λ (other : Column). same_name other.name name) cs
any_named name key not_null at [] = refl
any_named name key not_null at (c ∷ cs) =
    ap₂ (λ a b. a || b) (one (is_key key at))
    (any_named name key not_null (at + 1) cs)
  where
    one : (b : Bool) → same_name (if b then record c { not_null = not_null } else c).name name
        ≡ same_name c.name name
    one true = refl
    one false = refl

like_found : (t : Table) (tree : ℕ) (not_null : Bool) → is_like t (found_as t tree not_null) ≡ true
like_found t tree not_null =
    let columns = test_from (λ (column : Column). list_any (λ (other : Column).
    same_name other.name column.name) (found_as t tree not_null).columns) t.columns
    (λ column there. any_named column.name t.key not_null 0 t.columns
    ∙ some_from (λ (other : Column). same_name other.name column.name) t.columns column there
    (same_itself column.name)) in
    ap₂ (λ a b. a && b) (same_itself t.name) columns

pub meta_found : (tree : ℕ) (not_null : Bool) → is_meta (found_as meta_table tree not_null) ≡ true
unfolding same_name
meta_found tree not_null = refl

pub meta_there : Has desk_schema.tables meta_table
meta_there = inl refl

module _ (schema : Schema) (desk : HasDesk schema) where
  pub desk_has_columns : has_columns schema ≡ true
  desk_has_columns = test_from (λ wanted. list_any (is_like wanted) schema.tables)
      desk_schema.tables
      (λ wanted there. some_from (is_like wanted) schema.tables (actual schema desk wanted there)
      (in_tables schema desk wanted there)
      (like_found wanted (entry schema desk wanted there).tree
      (entry schema desk wanted there).not_null))

  pub desk_has_version : has_version schema ≡ true
  desk_has_version = some_from is_meta schema.tables (actual schema desk meta_table meta_there)
      (in_tables schema desk meta_table meta_there)
      (meta_found (entry schema desk meta_table meta_there).tree
      (entry schema desk meta_table meta_there).not_null)
