use Rattle.desk_sql_scan.proofs.DutyQueries.{change_read}
use Rattle.desk_sql_scan.proofs.duties.change_rows.Goals as goal

pub returns : goal.returns
returns g c = change_read g.R.Source c.args.source.now c.list.new.source c.list.result
    c.list.ensures
