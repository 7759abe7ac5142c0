-- Which schemas have the tables of a desk with their columns, whatever else they have.
use Rattle.std.specs.Prelude.{◌&&◌, Bool}
use Rattle.std.specs.List.{list_all, list_any}
use Rattle.sqlite_schema.specs.declared.schema.Schema.{Schema}
use Rattle.sqlite_schema.specs.declared.schema.Table.{Table}
use Rattle.sqlite_schema.specs.Names.{same_name}
use Rattle.desk_sql_layout.specs.Layout.{desk_schema}

-- a table with the name of another one, and columns with the names of its columns
abbrev pub is_like : Table → Table → Bool
is_like wanted table = same_name table.name wanted.name
    && list_all (λ column. list_any (λ other. same_name other.name column.name) table.columns)
    wanted.columns

-- for each of the desk's tables, one of the schema is like it; other tables don't count
abbrev pub has_columns : Schema → Bool
has_columns schema = list_all (λ wanted. list_any (is_like wanted) schema.tables) desk_schema.tables
