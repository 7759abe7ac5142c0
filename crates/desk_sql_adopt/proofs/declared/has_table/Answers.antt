use Rattle.std.proofs.Common.{◌≡◌, Some, ap, sym, ◌∙◌}
use Rattle.std.specs.Prelude.{slice_get}
use Rattle.sqlite_schema.specs.Names.{table_named}
use Rattle.desk_sql_adopt.proofs.Desks.{decided}
use Rattle.desk_sql_adopt.proofs.declared.has_table.Goals as goal

pub returns-in-Some-get : goal.returns-in-Some-get
returns-in-Some-get c =
    let schema = c.args.schema.now in
    let form = c.args.form.now in
    let named : table_named schema form.name.now ≡ Some c.in-Some.place =
    sym (ap (table_named schema) c.as_bytes.ensures.value) ∙ sym c.table_named.ensures
    ∙ c.in-Some.is in
    let listed : slice_get schema.tables c.in-Some.place ≡ Some c.in-Some-get.table.now =
    sym c.in-Some-get.ensures.value in
    decided schema form c.in-Some.place named c.in-Some-get.table.now listed c.is_kept.result
    c.is_kept.ensures
