use Rattle.std.proofs.Common.{sym, subst}
use Rattle.desk_sql_scan.specs.Parts.{AreRowsOf}
use Rattle.desk_sql_scan.specs.Scans.{IsSnapshot}
use Rattle.desk_sql_scan.proofs.Chains.{as_one, fails_so, hands_on, then_fails, then_scans}
use Rattle.desk_sql_scan.proofs.Joining.{joined_has, joined_is}
use Rattle.desk_sql_scan.proofs.whole.read_whole.Goals as goal

pub returns-in_err-first : goal.returns-in_err-first
returns-in_err-first g c = hands_on g.R.Source _ _ c.from_residual.result c.from_residual.ensures.1
    (fails_so g.R.Source c.in_err-first.ensures)

pub returns-in_err-second : goal.returns-in_err-second
returns-in_err-second g c = hands_on g.R.Source _ _ c.from_residual-in_err-second.result
    c.from_residual-in_err-second.ensures.1
    (then_fails g.R.Source c.in_ok-first.ensures (fails_so g.R.Source c.in_err-second.ensures))

pub returns : goal.returns
returns g c =
    let old = g.R.Source.shows c.args.source.now in
    as_one g.R.Source _ _ _ (then_scans g.R.Source c.in_ok-first.ensures c.in_ok-second.ensures)
    (λ it. record {
      survives = it.survives;
      same = it.same;
      raw = λ clean has. subst (λ s. IsSnapshot s old.now) (sym c.join.ensures)
          (joined_has c.in_ok-first.first c.in_ok-second.second old.now (it.raw clean has));
      found = λ clean t holds. subst (λ s. AreRowsOf s t) (sym c.join.ensures)
          (joined_is c.in_ok-first.first c.in_ok-second.second t (it.found clean t holds));
    })
