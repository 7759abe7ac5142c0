use Rattle.std.proofs.Common.{◌≡◌, ◌∙◌, ap, filter, find, slice_get}
use Rattle.std.specs.Option.{option_map}
use Rattle.desk_base.proofs.Lists.{first_found}
use Rattle.desk_history.specs.FromTables.{known_import}
use Rattle.desk_model.specs.Keys.{has_namespace}
use Rattle.desk_sql_layout.specs.Cells.{document_cells}
use Rattle.desk_sql_layout.specs.Shown.{import_cells}
use Rattle.desk_sql_layout.proofs.Causes.{filter_written}
use Rattle.desk_sql_lookup.proofs.LookUps.{then_rows}
use Rattle.desk_sql_lookup.proofs.documents.import_of.Goals as goal

pub returns : goal.returns
returns g c =
    let p = has_namespace c.args.namespace.now in
    let told = option_map (known_import c.args.bytes.now) in
    then_rows g.S.Store c.args.conn.now c.select_import.new.conn c.in_ok-rows.ensures
    (λ t. Unit {0}) c.first_import.result (λ found t. found ≡ told (find p t.document)) import_cells
    c.deref.result.now (λ t. filter p t.document)
    (λ clean t held any. c.deref.ensures.value ∙ c.in_ok-rows.ensures.found clean t held)
    (λ t written. filter_written document_cells import_cells (λ x row. (row.0, (tt, tt))) p
    t.document (written.cells 4))
    (λ found rows. found ≡ told (slice_get rows 0))
    (λ found t is. is tt ∙ ap told (first_found p t.document)) c.first_import.ensures.value
    c.first_import.ensures.cause
