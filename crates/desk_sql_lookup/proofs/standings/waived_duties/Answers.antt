use Rattle.std.proofs.Common.{◌≡◌, filter}
use Rattle.desk_model.specs.Names.{duty_state_name}
use Rattle.desk_model.specs.declared.state.DutyState.TheVariants.{Waived}
use Rattle.desk_sql_lookup.specs.Standings.{stands_at}
use Rattle.desk_sql_lookup.proofs.DutyQueries.{duties_at_finds}
use Rattle.desk_sql_lookup.proofs.LookUps.{rows_found}
use Rattle.desk_sql_lookup.proofs.standings.waived_duties.Goals as goal

pub returns : goal.returns
returns g c =
    rows_found g.S.Store c.args.conn.now c.read_rows.new.conn
    (duties_at_finds (duty_state_name Waived)) c.read_rows.result (λ found rows. found.items ≡ rows)
    (rw c.duty_state.ensures at c.read_rows.ensures) (λ t. Unit {0})
    (λ found t. found.items ≡ filter (stands_at (duty_state_name Waived)) t.duty)
    (λ found t orderly is. is)
