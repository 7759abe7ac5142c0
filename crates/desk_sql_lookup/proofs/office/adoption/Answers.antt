use Rattle.std.proofs.Common.{◌≡◌, ◌∙◌, slice_get}
use Rattle.desk_model.specs.Keys.{is_adoption}
use Rattle.desk_model.specs.declared.row.AdoptionRow.{AdoptionRow}
use Rattle.desk_model.specs.Conclusions.{licence_for}
use Rattle.desk_sql_layout.specs.Shown.{text_cells}
use Rattle.desk_sql_layout.proofs.Finding.{finds_mapped}
use Rattle.desk_sql_layout.proofs.Loops.{first_mapped}
use Rattle.desk_sql_lookup.proofs.OfficeQueries.{adoption_finds}
use Rattle.desk_sql_lookup.proofs.LookUps.{rows_found}
use Rattle.desk_sql_lookup.proofs.office.adoption.Goals as goal

pub returns : goal.returns
returns g c =
    let licence = λ (row : AdoptionRow). row.licence in
    rows_found g.S.Store c.args.conn.now c.read_one.new.conn
    (finds_mapped text_cells licence (adoption_finds c.args.document c.args.reference.now))
    c.read_one.result (λ found rows. found ≡ slice_get rows 0)
    (rw (c.number.ensures, c.text.ensures) at c.read_one.ensures) (λ t. Unit {0})
    (λ found t. found ≡ licence_for t.adoption c.args.document c.args.reference.now)
    (λ found t orderly is. is ∙ first_mapped licence
    (is_adoption c.args.document c.args.reference.now) t.adoption)
