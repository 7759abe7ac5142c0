use Rattle.std.proofs.Common.{◌≡◌, filter}
use Rattle.desk_model.specs.Keys.{is_duty_of}
use Rattle.desk_sql_lookup.proofs.DutyQueries.{duties_of_finds}
use Rattle.desk_sql_lookup.proofs.LookUps.{rows_found}
use Rattle.desk_sql_lookup.proofs.duties.duties_of.Goals as goal

pub returns : goal.returns
returns g c =
    rows_found g.S.Store c.args.conn.now c.read_rows.new.conn (duties_of_finds c.args.release.now)
    c.read_rows.result (λ found rows. found.items ≡ rows)
    (rw c.text.ensures at c.read_rows.ensures) (λ t. Unit {0})
    (λ found t. found.items ≡ filter (is_duty_of c.args.release.now) t.duty)
    (λ found t orderly is. is)
