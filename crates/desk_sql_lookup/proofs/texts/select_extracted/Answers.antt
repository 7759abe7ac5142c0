use Rattle.desk_sql_lookup.proofs.TextQueries.{extracted_finds}
use Rattle.desk_sql_lookup.proofs.LookUps.{query_finds}
use Rattle.desk_sql_lookup.proofs.texts.select_extracted.Goals as goal

pub returns : goal.returns
returns g c =
    query_finds g.S.Store c.args.conn.now c.query.new.conn
    (extracted_finds c.args.document c.args.reference.now).finds
    c.query.result (rw (c.number.ensures, c.text.ensures) at c.query.ensures)
