use Rattle.std.proofs.Common.{◌≡◌, filter}
use Rattle.desk_sql_layout.specs.Shown.{is_conclusion_in}
use Rattle.desk_sql_lookup.proofs.OfficeQueries.{conclusions_finds}
use Rattle.desk_sql_lookup.proofs.LookUps.{rows_found}
use Rattle.desk_sql_lookup.proofs.office.conclusions_in.Goals as goal

pub returns : goal.returns
returns g c =
    rows_found g.S.Store c.args.conn.now c.read_rows.new.conn (conclusions_finds c.args.document)
    c.read_rows.result (λ found rows. found.items ≡ rows)
    (rw c.number.ensures at c.read_rows.ensures) (λ t. Unit {0})
    (λ found t. found.items ≡ filter (is_conclusion_in c.args.document) t.conclusion)
    (λ found t orderly is. is)
