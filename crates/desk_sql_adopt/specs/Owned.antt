-- A table of a schema that is as a form declares it.
use Rattle.std.specs.Prelude.{◌≡◌, ◌==◌, ◌^◌, ◌||◌, Bool, false, true, find, nat_le, not, List, Some}
use Rattle.std.specs.List.{list_all}
use Rattle.sqlite_schema.specs.declared.schema.Schema.{Schema}
use Rattle.sqlite_schema.specs.declared.schema.Table.{Table}
use Rattle.desk_sql_layout.specs.Desk.{is_harmless}
use Rattle.desk_sql_adopt.specs.Forms.{table_in}
use Rattle.desk_sql_adopt.specs.declared.forms.TableForm.{TableForm}

-- and is the first one in its tree
pub record IsOwn (tables : List Table) (table : Table) (form : TableForm)
    (not_null : Bool) : Type 0 where
  pub declared : table ≡ table_in form table.tree not_null
  pub first : find (λ t. t.tree == table.tree) tables ≡ Some (table_in form table.tree not_null)

-- whether or not its number has NOT NULL; its tree is stored, and no index refuses what its keys
-- allow
pub record IsKept (schema : Schema) (table : Table) (form : TableForm) : Type 0 where
  pub own : (not_null : Bool) × IsOwn schema.tables table form not_null
  pub stored : nat_le (2 ^ 31) table.tree ≡ false
  pub harmless : list_all (λ index. not (index.table == table.tree) || is_harmless table index)
      schema.indexes ≡ true
