use Rattle.std.proofs.Common.{◌≡◌, filter}
use Rattle.desk_model.specs.Keys.{is_choice_in}
use Rattle.desk_sql_lookup.proofs.ChoiceQueries.{choices_in_finds}
use Rattle.desk_sql_lookup.proofs.LookUps.{rows_found}
use Rattle.desk_sql_lookup.proofs.holding.choices_in.Goals as goal

pub returns : goal.returns
returns g c =
    rows_found g.S.Store c.args.conn.now c.read_rows.new.conn (choices_in_finds c.args.release.now)
    c.read_rows.result (λ found rows. found.items ≡ rows)
    (rw c.text.ensures at c.read_rows.ensures) (λ t. Unit {0})
    (λ found t. found.items ≡ filter (is_choice_in c.args.release.now) t.choice)
    (λ found t orderly is. is)
