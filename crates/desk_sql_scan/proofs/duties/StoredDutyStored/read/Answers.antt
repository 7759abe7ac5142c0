use Rattle.std.proofs.Common.{◌≡◌, ap, rules, subst, sym}
use Rattle.std.specs.List.{AllByRecursion}
use Rattle.sqlite_value.specs.Order.{column}
use Rattle.desk_model.specs.declared.command.Fault.TheVariants.{Memory}
use Rattle.desk_snapshot.specs.declared.rows.StoredDuty.{StoredDuty}
use Rattle.desk_sql_layout.specs.Causes.{IsRow, IsWritten}
use Rattle.desk_sql_scan.specs.Cells.{stored_duty_cells}
use Rattle.desk_sql_scan.proofs.duties.StoredDutyStored.read.Goals as goal

pub returns-in_err-text_at-5-clause-cause : goal.returns-in_err-text_at-5-clause-cause
returns-in_err-text_at-5-clause-cause c =
    let told : (x : StoredDuty) → c.args.row.now ≡ stored_duty_cells x → IsRow c.args.row.now
    → c.in_err-text_at-5.field-0.0 ≡ Memory = λ x is all.
    let cells = subst (AllByRecursion IsWritten) is all in
    c.in_err-text_at-5.ensures.cause x.rule (ap (λ r. column r 6) is)
    (subst (λ r. IsWritten (column r 6)) (sym is) cells.1.1.1.1.1.1.0) in
    search rules

pub returns-in_err-text_at-6-clause-cause : goal.returns-in_err-text_at-6-clause-cause
returns-in_err-text_at-6-clause-cause c =
    let told : (x : StoredDuty) → c.args.row.now ≡ stored_duty_cells x → IsRow c.args.row.now
    → c.in_err-text_at-6.field-0.0 ≡ Memory = λ x is all.
    let cells = subst (AllByRecursion IsWritten) is all in
    c.in_err-text_at-6.ensures.cause x.state (ap (λ r. column r 7) is)
    (subst (λ r. IsWritten (column r 7)) (sym is) cells.1.1.1.1.1.1.1.0) in
    search rules
