use Rattle.desk_sql_scan.proofs.Chains.{as_one, fails_so, hands_on, then_fails, then_scans}
use Rattle.desk_sql_scan.proofs.whole.second_part.Goals as goal

pub returns-in_err-catalogues : goal.returns-in_err-catalogues
returns-in_err-catalogues g c = hands_on g.R.Source _ _ c.from_residual.result
    c.from_residual.ensures.1 (fails_so g.R.Source c.in_err-catalogues.ensures)

pub returns-in_err-office : goal.returns-in_err-office
returns-in_err-office g c = hands_on g.R.Source _ _ c.from_residual-in_err-office.result
    c.from_residual-in_err-office.ensures.1
    (then_fails g.R.Source c.in_ok-catalogues.ensures (fails_so g.R.Source c.in_err-office.ensures))

pub returns-in_err-releases : goal.returns-in_err-releases
returns-in_err-releases g c = hands_on g.R.Source _ _ c.from_residual-in_err-releases.result
    c.from_residual-in_err-releases.ensures.1
    (then_fails g.R.Source c.in_ok-catalogues.ensures
    (then_fails g.R.Source c.in_ok-office.ensures (fails_so g.R.Source c.in_err-releases.ensures)))

pub returns : goal.returns
returns g c = as_one g.R.Source _ _ _
    (then_scans g.R.Source c.in_ok-catalogues.ensures
    (then_scans g.R.Source c.in_ok-office.ensures c.in_ok-releases.ensures)) (λ it. it)
