use Rattle.desk_sql_lookup.proofs.DocumentQueries.{names_finds}
use Rattle.desk_sql_lookup.proofs.LookUps.{query_finds}
use Rattle.desk_sql_lookup.proofs.heads.select_names.Goals as goal

pub returns : goal.returns
returns g c =
    query_finds g.S.Store c.args.conn.now c.query.new.conn
    names_finds.finds
    c.query.result c.query.ensures
