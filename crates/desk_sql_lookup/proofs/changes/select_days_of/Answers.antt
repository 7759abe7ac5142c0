use Rattle.desk_sql_lookup.proofs.ChangeQueries.{days_of_finds}
use Rattle.desk_sql_lookup.proofs.LookUps.{query_finds}
use Rattle.desk_sql_lookup.proofs.changes.select_days_of.Goals as goal

pub returns : goal.returns
returns g c =
    query_finds g.S.Store c.args.conn.now c.query.new.conn
    (days_of_finds c.args.duty).finds
    c.query.result (rw c.number.ensures at c.query.ensures)
