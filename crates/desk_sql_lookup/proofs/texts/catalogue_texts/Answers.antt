use Rattle.std.proofs.Common.{◌≡◌, ◌∙◌, ◌+◌, ap, filter, length, map, min}
use Rattle.desk_model.specs.Keys.{is_revision}
use Rattle.desk_model.specs.declared.row.CatalogueRow.{CatalogueRow}
use Rattle.desk_sql_layout.specs.Shown.{text_cells}
use Rattle.desk_sql_lookup.proofs.Among.{revision_among}
use Rattle.desk_sql_layout.proofs.Finding.{finds_mapped}
use Rattle.desk_sql_lookup.proofs.LookUps.{rows_found}
use Rattle.desk_sql_lookup.proofs.TextQueries.{catalogue_finds}
use Rattle.desk_sql_lookup.proofs.texts.catalogue_texts.Goals as goal

pub returns : goal.returns
returns g c =
    let n = c.args.n in
    let body = λ (row : CatalogueRow). row.body in
    rows_found g.S.Store c.args.conn.now c.read_rows.new.conn
    (finds_mapped text_cells body (catalogue_finds (min n (c.args.revisions + 1))))
    c.read_rows.result
    (λ found rows. found.items ≡ rows) (rw c.among.ensures at c.read_rows.ensures) (λ t. Unit {0})
    (λ found t. length t.catalogue ≡ c.args.revisions
    → found.items ≡ map body (filter (is_revision n) t.catalogue))
    (λ found t orderly is count. is
    ∙ ap (map body) (revision_among n c.args.revisions t orderly count))
