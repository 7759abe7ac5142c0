use Rattle.std.proofs.Common.{◌<◌, length, ap, subst, sym, arith}
use Rattle.std.proofs.lemmas.Result.{IfErr-weaker}
use Rattle.sqlite_value.specs.Order.{column}
use Rattle.desk_model.specs.declared.row.ExtractedRow.{ExtractedRow}
use Rattle.desk_sql_layout.specs.Causes.{IsRow, IsWritten}
use Rattle.desk_sql_layout.specs.Shown.{extracted_body_cells}
use Rattle.desk_sql_layout.proofs.Causes.{no_days}
use Rattle.desk_sql_layout.proofs.Loops.{got_place}
use Rattle.desk_sql_lookup.proofs.texts.first_body.Goals as goal

pub returns-in-Some-clause-cause : goal.returns-in-Some-clause-cause
returns-in-Some-clause-cause c =
    IfErr-weaker c.text_or_null_at.result _ _
    (λ fault told xs is all.
    let x = got_place extracted_body_cells IsRow (λ (x : ExtractedRow). Unit {0}) xs
    c.args.rows.now 0 c.in-Some.row.now is c.in-Some.ensures.value all (no_days xs) in
    let one : 0 < length (extracted_body_cells x.0) = omega arith in
    told x.0.body (subst (λ r. 0 < length r) (sym x.1) one) (ap (λ r. column r 0) x.1)
    (subst (λ r. IsWritten (column r 0)) (sym x.1) (subst IsRow x.1 x.2).0))
    c.text_or_null_at.ensures.cause
