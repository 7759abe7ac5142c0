use Rattle.desk_sql_lookup.proofs.ReleaseQueries.{attached_count_finds}
use Rattle.desk_sql_lookup.proofs.LookUps.{query_finds}
use Rattle.desk_sql_lookup.proofs.releases.select_attached_count.Goals as goal

pub returns : goal.returns
returns g c =
    query_finds g.S.Store c.args.conn.now c.query.new.conn
    (attached_count_finds c.args.release.now)
    c.query.result (rw c.text.ensures at c.query.ensures)
