use Rattle.desk_sql_scan.proofs.OfficeQueries.{conclusion_read}
use Rattle.desk_sql_scan.proofs.office.conclusion_rows.Goals as goal

pub returns : goal.returns
returns g c = conclusion_read g.R.Source c.args.source.now c.list.new.source c.list.result
    c.list.ensures
