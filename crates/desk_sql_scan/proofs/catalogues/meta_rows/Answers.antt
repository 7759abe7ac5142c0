use Rattle.desk_sql_scan.proofs.CatalogueQueries.{meta_read}
use Rattle.desk_sql_scan.proofs.catalogues.meta_rows.Goals as goal

pub returns : goal.returns
returns g c = meta_read g.R.Source c.args.source.now c.items.new.source c.items.result
    c.items.ensures
