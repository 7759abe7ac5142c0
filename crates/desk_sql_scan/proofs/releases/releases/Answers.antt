use Rattle.desk_sql_scan.proofs.Chains.{as_one, fails_so, hands_on, then_fails, then_scans}
use Rattle.desk_sql_scan.proofs.releases.releases.Goals as goal

pub returns-in_err-release_rows : goal.returns-in_err-release_rows
returns-in_err-release_rows g c = hands_on g.R.Source _ _ c.from_residual.result
    c.from_residual.ensures.1 (fails_so g.R.Source c.in_err-release_rows.ensures)

pub returns-in_err-attached_rows : goal.returns-in_err-attached_rows
returns-in_err-attached_rows g c = hands_on g.R.Source _ _
    c.from_residual-in_err-attached_rows.result c.from_residual-in_err-attached_rows.ensures.1
    (then_fails g.R.Source c.in_ok-release_rows.ensures
    (fails_so g.R.Source c.in_err-attached_rows.ensures))

pub returns-in_err-choice_rows : goal.returns-in_err-choice_rows
returns-in_err-choice_rows g c = hands_on g.R.Source _ _ c.from_residual-in_err-choice_rows.result
    c.from_residual-in_err-choice_rows.ensures.1
    (then_fails g.R.Source c.in_ok-release_rows.ensures
    (then_fails g.R.Source c.in_ok-attached_rows.ensures
    (fails_so g.R.Source c.in_err-choice_rows.ensures)))

pub returns-in_err-frozen_rows : goal.returns-in_err-frozen_rows
returns-in_err-frozen_rows g c = hands_on g.R.Source _ _ c.from_residual-in_err-frozen_rows.result
    c.from_residual-in_err-frozen_rows.ensures.1
    (then_fails g.R.Source c.in_ok-release_rows.ensures
    (then_fails g.R.Source c.in_ok-attached_rows.ensures
    (then_fails g.R.Source c.in_ok-choice_rows.ensures
    (fails_so g.R.Source c.in_err-frozen_rows.ensures))))

pub returns : goal.returns
returns g c = as_one g.R.Source _ _ _
    (then_scans g.R.Source c.in_ok-release_rows.ensures
    (then_scans g.R.Source c.in_ok-attached_rows.ensures
    (then_scans g.R.Source c.in_ok-choice_rows.ensures c.in_ok-frozen_rows.ensures))) (λ it. it)
