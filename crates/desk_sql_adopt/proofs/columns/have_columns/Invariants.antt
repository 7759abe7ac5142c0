use Rattle.std.proofs.Common.{◌≡◌, drop, map}
use Rattle.std.specs.List.{list_all, list_any}
use Rattle.sqlite_schema.specs.Names.{same_name}
use Rattle.sqlite_schema.specs.declared.schema.Column.{Column}
use Rattle.desk_sql_adopt.specs.Forms.{column_by}
use Rattle.desk_sql_adopt.proofs.columns.have_columns.Given as goal

-- the columns that are left are there exactly if all are
abbrev pub invariant-loop-form : goal.invariant-loop-form
invariant-loop-form l =
    list_all (λ (column : Column). list_any (λ (other : Column). same_name other.name column.name)
    l.columns) (map column_by (drop l.form-index l.forms))
    ≡ list_all (λ (column : Column). list_any (λ (other : Column). same_name other.name column.name)
    l.columns) (map column_by l.forms)
