use Rattle.std.proofs.Common.{◌≡◌, filter, map}
use Rattle.desk_model.specs.Keys.{is_duty_of}
use Rattle.desk_sql_lookup.specs.Standings.{state_row}
use Rattle.desk_sql_layout.specs.Shown.{state_cells}
use Rattle.desk_sql_layout.proofs.Finding.{finds_mapped}
use Rattle.desk_sql_lookup.proofs.DutyQueries.{states_of_finds}
use Rattle.desk_sql_lookup.proofs.LookUps.{rows_found}
use Rattle.desk_sql_lookup.proofs.standings.states_of.Goals as goal

pub returns : goal.returns
returns g c =
    rows_found g.S.Store c.args.conn.now c.read_rows.new.conn (finds_mapped state_cells
    state_row (states_of_finds c.args.release.now)) c.read_rows.result
    (λ found rows. found.items ≡ rows)
    (rw c.text.ensures at c.read_rows.ensures) (λ t. Unit {0})
    (λ found t. found.items ≡ map state_row (filter (is_duty_of c.args.release.now) t.duty))
    (λ found t orderly is. is)
