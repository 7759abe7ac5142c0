use Rattle.std.proofs.Common.{ap, ◌∙◌}
use Rattle.std.specs.List.{list_all, list_any}
use Rattle.desk_sql_layout.specs.Layout.{desk_schema}
use Rattle.desk_sql_adopt.specs.Columns.{is_like}
use Rattle.desk_sql_adopt.proofs.columns.has_columns.Goals as goal

pub returns : goal.returns
returns c = c.have_all.ensures
    ∙ ap (λ tables. list_all (λ wanted. list_any (is_like wanted) tables) desk_schema.tables)
    c.as_slice.ensures
