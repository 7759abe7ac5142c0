use Rattle.std.proofs.Common.{◌≡◌, filter, map}
use Rattle.desk_model.specs.Keys.{is_choice_of}
use Rattle.desk_model.specs.declared.row.ChoiceRow.{ChoiceRow}
use Rattle.desk_sql_layout.specs.Shown.{text_cells}
use Rattle.desk_sql_layout.proofs.Finding.{finds_mapped}
use Rattle.desk_sql_lookup.proofs.ChoiceQueries.{chosen_finds}
use Rattle.desk_sql_lookup.proofs.LookUps.{rows_found}
use Rattle.desk_sql_lookup.proofs.releases.chosen.Goals as goal

pub returns : goal.returns
returns g c =
    rows_found g.S.Store c.args.conn.now c.read_rows.new.conn (finds_mapped text_cells
    (λ (x : ChoiceRow). x.term) (chosen_finds c.args.release.now c.args.document c.args.id.now))
    c.read_rows.result (λ found rows. found.items ≡ rows)
    (rw (c.text.ensures, c.number.ensures, c.text-2.ensures) at c.read_rows.ensures) (λ t. Unit {0})
    (λ found t. found.items ≡ map (λ row. row.term)
    (filter (is_choice_of c.args.release.now c.args.document c.args.id.now) t.choice))
    (λ found t orderly is. is)
