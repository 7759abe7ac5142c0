use Rattle.std.proofs.Common.{◌≡◌, ◌∙◌, slice_get}
use Rattle.desk_base.proofs.Lists.{first_found}
use Rattle.desk_model.specs.Keys.{is_release}
use Rattle.desk_history.specs.FromTables.{release_found}
use Rattle.desk_sql_lookup.proofs.ReleaseQueries.{release_finds}
use Rattle.desk_sql_lookup.proofs.LookUps.{rows_found}
use Rattle.desk_sql_lookup.proofs.releases.release.Goals as goal

pub returns : goal.returns
returns g c =
    rows_found g.S.Store c.args.conn.now c.read_one.new.conn (release_finds c.args.name.now)
    c.read_one.result (λ found rows. found ≡ slice_get rows 0)
    (rw c.text.ensures at c.read_one.ensures) (λ t. Unit {0})
    (λ found t. found ≡ release_found t c.args.name.now)
    (λ found t orderly is. is ∙ first_found (is_release c.args.name.now) t.releases)
