use Rattle.desk_sql_scan.proofs.Chains.{as_one, fails_so, hands_on, then_fails, then_scans}
use Rattle.desk_sql_scan.proofs.catalogues.catalogues.Goals as goal

pub returns-in_err-meta_rows : goal.returns-in_err-meta_rows
returns-in_err-meta_rows g c = hands_on g.R.Source _ _ c.from_residual.result
    c.from_residual.ensures.1 (fails_so g.R.Source c.in_err-meta_rows.ensures)

pub returns-in_err-catalogue_rows : goal.returns-in_err-catalogue_rows
returns-in_err-catalogue_rows g c = hands_on g.R.Source _ _
    c.from_residual-in_err-catalogue_rows.result c.from_residual-in_err-catalogue_rows.ensures.1
    (then_fails g.R.Source c.in_ok-meta_rows.ensures
    (fails_so g.R.Source c.in_err-catalogue_rows.ensures))

pub returns-in_err-rule_rows : goal.returns-in_err-rule_rows
returns-in_err-rule_rows g c = hands_on g.R.Source _ _ c.from_residual-in_err-rule_rows.result
    c.from_residual-in_err-rule_rows.ensures.1
    (then_fails g.R.Source c.in_ok-meta_rows.ensures
    (then_fails g.R.Source c.in_ok-catalogue_rows.ensures
    (fails_so g.R.Source c.in_err-rule_rows.ensures)))

pub returns : goal.returns
returns g c = as_one g.R.Source _ _ _
    (then_scans g.R.Source c.in_ok-meta_rows.ensures
    (then_scans g.R.Source c.in_ok-catalogue_rows.ensures c.in_ok-rule_rows.ensures)) (λ it. it)
