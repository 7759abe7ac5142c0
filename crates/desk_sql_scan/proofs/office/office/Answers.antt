use Rattle.desk_sql_scan.proofs.Chains.{as_one, fails_so, hands_on, then_fails, then_scans}
use Rattle.desk_sql_scan.proofs.office.office.Goals as goal

pub returns-in_err-conclusion_rows : goal.returns-in_err-conclusion_rows
returns-in_err-conclusion_rows g c = hands_on g.R.Source _ _ c.from_residual.result
    c.from_residual.ensures.1 (fails_so g.R.Source c.in_err-conclusion_rows.ensures)

pub returns-in_err-adoption_rows : goal.returns-in_err-adoption_rows
returns-in_err-adoption_rows g c = hands_on g.R.Source _ _
    c.from_residual-in_err-adoption_rows.result c.from_residual-in_err-adoption_rows.ensures.1
    (then_fails g.R.Source c.in_ok-conclusion_rows.ensures
    (fails_so g.R.Source c.in_err-adoption_rows.ensures))

pub returns : goal.returns
returns g c = as_one g.R.Source _ _ _
    (then_scans g.R.Source c.in_ok-conclusion_rows.ensures c.in_ok-adoption_rows.ensures) (λ it. it)
