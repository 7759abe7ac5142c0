use Rattle.desk_sql_lookup.proofs.DocumentQueries.{import_of_finds}
use Rattle.desk_sql_lookup.proofs.LookUps.{query_finds}
use Rattle.desk_sql_lookup.proofs.documents.select_import.Goals as goal

pub returns : goal.returns
returns g c =
    query_finds g.S.Store c.args.conn.now c.query.new.conn
    (import_of_finds c.args.namespace.now).finds
    c.query.result (rw c.text.ensures at c.query.ensures)
