use Rattle.std.proofs.Common.{◌≡◌, ap, rules, subst, sym}
use Rattle.std.specs.List.{AllByRecursion}
use Rattle.sqlite_value.specs.Order.{column}
use Rattle.desk_model.specs.declared.command.Fault.TheVariants.{Memory}
use Rattle.desk_model.specs.declared.row.DutyRow.{DutyRow}
use Rattle.desk_sql_layout.specs.Causes.{IsRow, IsWritten}
use Rattle.desk_sql_layout.specs.Cells.{duty_cells}
use Rattle.desk_sql_layout.proofs.rows.DutyRowReadRow.read.Goals as goal

pub returns-in_err-text_at-5-clause-cause : goal.returns-in_err-text_at-5-clause-cause
returns-in_err-text_at-5-clause-cause c =
    let told : (x : DutyRow) → c.args.row.now ≡ duty_cells x → IsRow c.args.row.now
    → c.in_err-text_at-5.field-0.0 ≡ Memory = λ x is all.
    let cells = subst (AllByRecursion IsWritten) is all in
    c.in_err-text_at-5.ensures.cause x.rule (ap (λ r. column r 6) is)
    (subst (λ r. IsWritten (column r 6)) (sym is) cells.1.1.1.1.1.1.0) in
    search rules
