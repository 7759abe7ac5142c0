use Rattle.desk_sql_scan.proofs.Chains.{as_one, fails_so, hands_on, then_fails, then_scans}
use Rattle.desk_sql_scan.proofs.duties.duties.Goals as goal

pub returns-in_err-change_rows : goal.returns-in_err-change_rows
returns-in_err-change_rows g c = hands_on g.R.Source _ _ c.from_residual.result
    c.from_residual.ensures.1 (fails_so g.R.Source c.in_err-change_rows.ensures)

pub returns-in_err-duty_rows : goal.returns-in_err-duty_rows
returns-in_err-duty_rows g c = hands_on g.R.Source _ _ c.from_residual-in_err-duty_rows.result
    c.from_residual-in_err-duty_rows.ensures.1
    (then_fails g.R.Source c.in_ok-change_rows.ensures
    (fails_so g.R.Source c.in_err-duty_rows.ensures))

pub returns-in_err-waiver_rows : goal.returns-in_err-waiver_rows
returns-in_err-waiver_rows g c = hands_on g.R.Source _ _ c.from_residual-in_err-waiver_rows.result
    c.from_residual-in_err-waiver_rows.ensures.1
    (then_fails g.R.Source c.in_ok-change_rows.ensures
    (then_fails g.R.Source c.in_ok-duty_rows.ensures
    (fails_so g.R.Source c.in_err-waiver_rows.ensures)))

pub returns : goal.returns
returns g c = as_one g.R.Source _ _ _
    (then_scans g.R.Source c.in_ok-change_rows.ensures
    (then_scans g.R.Source c.in_ok-duty_rows.ensures c.in_ok-waiver_rows.ensures)) (λ it. it)
