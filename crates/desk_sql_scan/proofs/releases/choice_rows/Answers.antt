use Rattle.desk_sql_scan.proofs.ReleaseQueries.{choice_read}
use Rattle.desk_sql_scan.proofs.releases.choice_rows.Goals as goal

pub returns : goal.returns
returns g c = choice_read g.R.Source c.args.source.now c.list.new.source c.list.result
    c.list.ensures
