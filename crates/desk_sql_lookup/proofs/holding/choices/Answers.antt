use Rattle.std.proofs.Common.{◌≡◌}
use Rattle.desk_sql_lookup.proofs.ChoiceQueries.{choices_finds}
use Rattle.desk_sql_lookup.proofs.LookUps.{rows_found}
use Rattle.desk_sql_lookup.proofs.holding.choices.Goals as goal

pub returns : goal.returns
returns g c =
    rows_found g.S.Store c.args.conn.now c.read_rows.new.conn choices_finds c.read_rows.result
    (λ found rows. found.items ≡ rows)
    c.read_rows.ensures (λ t. Unit {0})
    (λ found t. found.items ≡ t.choice) (λ found t orderly is. is)
