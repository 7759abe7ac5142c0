use Rattle.std.proofs.Common.{◌≡◌, ◌∙◌, ap, filter, slice_get}
use Rattle.std.specs.Option.{option_and_then}
use Rattle.desk_base.proofs.Lists.{first_found}
use Rattle.desk_model.specs.Bills.{extracted_text}
use Rattle.desk_model.specs.Keys.{is_extracted}
use Rattle.desk_model.specs.declared.row.ExtractedRow.{ExtractedRow}
use Rattle.desk_sql_layout.specs.Cells.{extracted_cells}
use Rattle.desk_sql_layout.specs.Shown.{extracted_body_cells}
use Rattle.desk_sql_layout.proofs.Causes.{filter_written}
use Rattle.desk_sql_lookup.proofs.LookUps.{then_rows}
use Rattle.desk_sql_lookup.proofs.texts.extracted_text.Goals as goal

pub returns : goal.returns
returns g c =
    let p = is_extracted c.args.document c.args.reference.now in
    let body = option_and_then (λ (row : ExtractedRow). row.body) in
    then_rows g.S.Store c.args.conn.now c.select_extracted.new.conn c.in_ok-rows.ensures
    (λ t. Unit {0}) c.first_body.result
    (λ found t. found ≡ extracted_text t.extracted c.args.document c.args.reference.now)
    extracted_body_cells c.deref.result.now (λ t. filter p t.extracted)
    (λ clean t held any. c.deref.ensures.value ∙ c.in_ok-rows.ensures.found clean t held)
    (λ t written. filter_written extracted_cells extracted_body_cells (λ x row. row.1.1) p
    t.extracted (written.cells 8))
    (λ found rows. found ≡ body (slice_get rows 0))
    (λ found t is. is tt ∙ ap body (first_found p t.extracted)) c.first_body.ensures.value
    c.first_body.ensures.cause
