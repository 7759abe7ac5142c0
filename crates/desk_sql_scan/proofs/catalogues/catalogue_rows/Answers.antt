use Rattle.desk_sql_scan.proofs.CatalogueQueries.{catalogue_read}
use Rattle.desk_sql_scan.proofs.catalogues.catalogue_rows.Goals as goal

pub returns : goal.returns
returns g c = catalogue_read g.R.Source c.args.source.now c.items.new.source c.items.result
    c.items.ensures
