use Rattle.desk_sql_scan.proofs.OfficeQueries.{adoption_read}
use Rattle.desk_sql_scan.proofs.office.adoption_rows.Goals as goal

pub returns : goal.returns
returns g c = adoption_read g.R.Source c.args.source.now c.items.new.source c.items.result
    c.items.ensures
