use Rattle.desk_sql_scan.proofs.DutyQueries.{waiver_read}
use Rattle.desk_sql_scan.proofs.duties.waiver_rows.Goals as goal

pub returns : goal.returns
returns g c = waiver_read g.R.Source c.args.source.now c.list.new.source c.list.result
    c.list.ensures
