use Rattle.std.proofs.Common.{◌-◌, length, slice_get, ap, ◌∙◌, ◌≡◌, List, map, rules, subst, sym}
use Rattle.desk_sql_lookup.proofs.LastDay.{last_some}
use Rattle.std.specs.List.{AllByRecursion}
use Rattle.sqlite_value.specs.Order.{column}
use Rattle.desk_model.specs.declared.command.Fault.TheVariants.{Memory}
use Rattle.desk_model.specs.declared.row.ChangeRow.{ChangeRow}
use Rattle.desk_sql_layout.specs.Causes.{HasDay, IsRow, IsWritten}
use Rattle.desk_sql_layout.specs.Shown.{day_cells}
use Rattle.desk_sql_layout.proofs.Loops.{got_place}
use Rattle.desk_sql_lookup.proofs.changes.last_of.Goals as goal

pub returns-in_ok-day_at-in-Some-clause-value : goal.returns-in_ok-day_at-in-Some-clause-value
returns-in_ok-day_at-in-Some-clause-value c = λ xs is. last_some xs c.in-Some.row.now
    c.in_ok-day_at-in-Some.field-0
    (c.in-Some.ensures.value ∙ ap (λ l. slice_get l (length l - 1)) is)
    c.in_ok-day_at-in-Some.ensures.value

pub returns-in_err-day_at-in-Some-clause-cause : goal.returns-in_err-day_at-in-Some-clause-cause
returns-in_err-day_at-in-Some-clause-cause c =
    let rows = c.args.rows.now in
    let row = c.in-Some.row.now in
    let told : (xs : List ChangeRow) → rows ≡ map day_cells xs → AllByRecursion IsRow rows
    → AllByRecursion HasDay xs → c.in_err-day_at-in-Some.field-0.0 ≡ Memory = λ xs is all days.
    let x = got_place day_cells IsRow HasDay xs rows (length rows - 1) row is
    c.in-Some.ensures.value all days in
    c.in_err-day_at-in-Some.ensures.cause x.0.day (ap (λ r. column r 0) x.1)
    (subst (λ r. IsWritten (column r 0)) (sym x.1) (subst IsRow x.1 x.2).0) x.3 in
    search rules
