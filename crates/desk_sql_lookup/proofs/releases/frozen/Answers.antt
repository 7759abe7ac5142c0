use Rattle.std.proofs.Common.{◌≡◌, filter}
use Rattle.std.specs.Prelude.{bytes_eq}
use Rattle.desk_sql_lookup.proofs.ReleaseQueries.{frozen_finds}
use Rattle.desk_sql_lookup.proofs.LookUps.{rows_found}
use Rattle.desk_sql_lookup.proofs.releases.frozen.Goals as goal

pub returns : goal.returns
returns g c =
    rows_found g.S.Store c.args.conn.now c.read_rows.new.conn (frozen_finds c.args.release.now)
    c.read_rows.result (λ found rows. found.items ≡ rows)
    (rw c.text.ensures at c.read_rows.ensures) (λ t. Unit {0})
    (λ found t. found.items ≡ filter (λ row. bytes_eq row.release c.args.release.now) t.frozen)
    (λ found t orderly is. is)
