-- Schemas that lack something of a desk's, or have too much.
use Rattle.std.specs.Prelude.{◌==◌, ◌++◌, [], ◌∷◌, codes, filter, not, true}
use Rattle.sqlite_value.specs.Keys.{plain}
use Rattle.sqlite_schema.specs.declared.schema.Schema.{Schema}
use Rattle.sqlite_schema.specs.declared.schema.Table.{Table}
use Rattle.desk_sql_layout.specs.Layout.{desk_schema, duty_table}

-- a desk's tables but for one
abbrev pub without : Table → Schema
without table = record desk_schema {
  tables = filter (λ t. not (t.tree == table.tree)) desk_schema.tables;
}

-- a desk's tables with an index by which no two duties have the same state, which is at place 8 of
-- their rows
abbrev pub with_states_once : Schema
with_states_once = record desk_schema {
  indexes = desk_schema.indexes ++ (record {
    name = codes "one_of_each_state";
    tree = 30;
    table = duty_table.tree;
    columns = 8 ∷ [];
    order = plain;
    is_unique = true;
  } ∷ []);
}
