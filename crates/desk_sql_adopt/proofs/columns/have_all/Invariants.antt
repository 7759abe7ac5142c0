use Rattle.std.proofs.Common.{◌≡◌, drop, map}
use Rattle.std.specs.List.{list_all, list_any}
use Rattle.sqlite_schema.specs.declared.schema.Table.{Table}
use Rattle.desk_sql_adopt.specs.Columns.{is_like}
use Rattle.desk_sql_adopt.specs.Forms.{table_by}
use Rattle.desk_sql_adopt.proofs.columns.have_all.Given as goal

-- the tables that are left are there exactly if all are
abbrev pub invariant-loop-form : goal.invariant-loop-form
invariant-loop-form l =
    list_all (λ (wanted : Table). list_any (is_like wanted) l.tables)
    (map table_by (drop l.form-index l.forms))
    ≡ list_all (λ (wanted : Table). list_any (is_like wanted) l.tables) (map table_by l.forms)
