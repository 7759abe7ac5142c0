use Rattle.desk_sql_scan.proofs.DocumentQueries.{extracted_read}
use Rattle.desk_sql_scan.proofs.documents.extracted_rows.Goals as goal

pub returns : goal.returns
returns g c = extracted_read g.R.Source c.args.source.now c.items.new.source c.items.result
    c.items.ensures
