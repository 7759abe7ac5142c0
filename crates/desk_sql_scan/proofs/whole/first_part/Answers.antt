use Rattle.desk_sql_scan.proofs.Chains.{as_one, fails_so, hands_on, then_fails, then_scans}
use Rattle.desk_sql_scan.proofs.whole.first_part.Goals as goal

pub returns-in_err-documents : goal.returns-in_err-documents
returns-in_err-documents g c = hands_on g.R.Source _ _ c.from_residual.result
    c.from_residual.ensures.1 (fails_so g.R.Source c.in_err-documents.ensures)

pub returns-in_err-duties : goal.returns-in_err-duties
returns-in_err-duties g c = hands_on g.R.Source _ _ c.from_residual-in_err-duties.result
    c.from_residual-in_err-duties.ensures.1
    (then_fails g.R.Source c.in_ok-documents.ensures (fails_so g.R.Source c.in_err-duties.ensures))

pub returns : goal.returns
returns g c = as_one g.R.Source _ _ _
    (then_scans g.R.Source c.in_ok-documents.ensures c.in_ok-duties.ensures) (λ it. it)
