use Rattle.desk_sql_scan.proofs.DocumentQueries.{reading_read}
use Rattle.desk_sql_scan.proofs.documents.reading_rows.Goals as goal

pub returns : goal.returns
returns g c = reading_read g.R.Source c.args.source.now c.list.new.source c.list.result
    c.list.ensures
