use Rattle.desk_sql_scan.proofs.Chains.{as_one, fails_so, hands_on, then_fails, then_scans}
use Rattle.desk_sql_scan.proofs.documents.documents.Goals as goal

pub returns-in_err-document_rows : goal.returns-in_err-document_rows
returns-in_err-document_rows g c = hands_on g.R.Source _ _ c.from_residual.result
    c.from_residual.ensures.1 (fails_so g.R.Source c.in_err-document_rows.ensures)

pub returns-in_err-reading_rows : goal.returns-in_err-reading_rows
returns-in_err-reading_rows g c = hands_on g.R.Source _ _ c.from_residual-in_err-reading_rows.result
    c.from_residual-in_err-reading_rows.ensures.1
    (then_fails g.R.Source c.in_ok-document_rows.ensures
    (fails_so g.R.Source c.in_err-reading_rows.ensures))

pub returns-in_err-package_rows : goal.returns-in_err-package_rows
returns-in_err-package_rows g c = hands_on g.R.Source _ _ c.from_residual-in_err-package_rows.result
    c.from_residual-in_err-package_rows.ensures.1
    (then_fails g.R.Source c.in_ok-document_rows.ensures
    (then_fails g.R.Source c.in_ok-reading_rows.ensures
    (fails_so g.R.Source c.in_err-package_rows.ensures)))

pub returns-in_err-extracted_rows : goal.returns-in_err-extracted_rows
returns-in_err-extracted_rows g c = hands_on g.R.Source _ _
    c.from_residual-in_err-extracted_rows.result c.from_residual-in_err-extracted_rows.ensures.1
    (then_fails g.R.Source c.in_ok-document_rows.ensures
    (then_fails g.R.Source c.in_ok-reading_rows.ensures
    (then_fails g.R.Source c.in_ok-package_rows.ensures
    (fails_so g.R.Source c.in_err-extracted_rows.ensures))))

pub returns : goal.returns
returns g c = as_one g.R.Source _ _ _
    (then_scans g.R.Source c.in_ok-document_rows.ensures
    (then_scans g.R.Source c.in_ok-reading_rows.ensures
    (then_scans g.R.Source c.in_ok-package_rows.ensures c.in_ok-extracted_rows.ensures))) (λ it. it)
