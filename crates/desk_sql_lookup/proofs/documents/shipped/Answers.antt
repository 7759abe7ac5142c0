use Rattle.std.proofs.Common.{◌≡◌, filter}
use Rattle.desk_model.specs.Keys.{is_shipped_by}
use Rattle.desk_sql_lookup.proofs.DocumentQueries.{shipped_finds}
use Rattle.desk_sql_lookup.proofs.LookUps.{rows_found}
use Rattle.desk_sql_lookup.proofs.documents.shipped.Goals as goal

pub returns : goal.returns
returns g c =
    rows_found g.S.Store c.args.conn.now c.read_rows.new.conn (shipped_finds c.args.document)
    c.read_rows.result (λ found rows. found.items ≡ rows)
    (rw (c.number.ensures, c.flag.ensures) at c.read_rows.ensures) (λ t. Unit {0})
    (λ found t. found.items ≡ filter (is_shipped_by c.args.document) t.packages)
    (λ found t orderly is. is)
