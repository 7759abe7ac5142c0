use Rattle.std.proofs.Common.{◌≡◌, filter, map}
use Rattle.desk_sql_lookup.specs.Steps.{is_change_within}
use Rattle.desk_model.specs.declared.row.ChangeRow.{ChangeRow}
use Rattle.desk_sql_layout.specs.Shown.{number_cells}
use Rattle.desk_sql_layout.proofs.Finding.{finds_mapped}
use Rattle.desk_sql_lookup.proofs.ChangeQueries.{changed_finds}
use Rattle.desk_sql_lookup.proofs.LookUps.{rows_found}
use Rattle.desk_sql_lookup.proofs.runs.changed_duties.Goals as goal

pub returns : goal.returns
returns g c =
    rows_found g.S.Store c.args.conn.now c.read_rows.new.conn (finds_mapped number_cells
    (λ (x : ChangeRow). x.duty) (changed_finds c.args.first c.args.last)) c.read_rows.result
    (λ found rows. found.items ≡ rows)
    (rw (c.number.ensures, c.number-2.ensures) at c.read_rows.ensures) (λ t. Unit {0})
    (λ found t. found.items ≡ map (λ change. change.duty)
    (filter (is_change_within c.args.first c.args.last) t.changes))
    (λ found t orderly is. is)
