use Rattle.std.proofs.Common.{◌≡◌, filter, map}
use Rattle.desk_model.specs.Keys.{is_adoption_in}
use Rattle.desk_model.specs.declared.row.AdoptionRow.{AdoptionRow}
use Rattle.desk_sql_layout.specs.Shown.{text_cells}
use Rattle.desk_sql_layout.proofs.Finding.{finds_mapped}
use Rattle.desk_sql_lookup.proofs.OfficeQueries.{references_finds}
use Rattle.desk_sql_lookup.proofs.LookUps.{rows_found}
use Rattle.desk_sql_lookup.proofs.office.adopted_references.Goals as goal

pub returns : goal.returns
returns g c =
    rows_found g.S.Store c.args.conn.now c.read_rows.new.conn (finds_mapped text_cells
    (λ (x : AdoptionRow). x.reference) (references_finds c.args.document)) c.read_rows.result
    (λ found rows. found.items ≡ rows)
    (rw c.number.ensures at c.read_rows.ensures) (λ t. Unit {0})
    (λ found t. found.items ≡ map (λ row. row.reference)
    (filter (is_adoption_in c.args.document) t.adoption))
    (λ found t orderly is. is)
