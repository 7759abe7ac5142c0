use Rattle.std.proofs.Common.{◌≡◌}
use Rattle.desk_model.specs.History.{attached_to}
use Rattle.desk_sql_lookup.proofs.ReleaseQueries.{attached_finds}
use Rattle.desk_sql_lookup.proofs.LookUps.{rows_found}
use Rattle.desk_sql_lookup.proofs.releases.attached.Goals as goal

pub returns : goal.returns
returns g c =
    rows_found g.S.Store c.args.conn.now c.read_rows.new.conn (attached_finds c.args.release.now)
    c.read_rows.result (λ found rows. found.items ≡ rows)
    (rw c.text.ensures at c.read_rows.ensures) (λ t. Unit {0})
    (λ found t. found.items ≡ attached_to t.attached c.args.release.now) (λ found t orderly is. is)
