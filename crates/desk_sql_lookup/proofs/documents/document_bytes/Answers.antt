use Rattle.std.proofs.Common.{◌≡◌, ◌∙◌, ◌+◌, ap, find, length, map, min, slice_get}
use Rattle.std.specs.Option.{option_map}
use Rattle.desk_model.specs.Keys.{is_document}
use Rattle.desk_model.specs.declared.row.DocumentRow.{DocumentRow}
use Rattle.desk_sql_layout.specs.Shown.{bytes_cells}
use Rattle.desk_sql_lookup.proofs.Among.{document_among}
use Rattle.desk_sql_lookup.proofs.DocumentQueries.{document_bytes_finds}
use Rattle.desk_sql_layout.proofs.Finding.{finds_mapped}
use Rattle.desk_sql_layout.proofs.Loops.{first_mapped}
use Rattle.desk_sql_lookup.proofs.LookUps.{rows_found}
use Rattle.desk_sql_lookup.proofs.documents.document_bytes.Goals as goal

pub returns : goal.returns
returns g c =
    let n = c.args.number in
    let documents = c.args.documents in
    let bytes = λ (row : DocumentRow). row.bytes in
    rows_found g.S.Store c.args.conn.now c.read_one.new.conn
    (finds_mapped bytes_cells bytes (document_bytes_finds (min n (documents + 1))))
    c.read_one.result (λ found rows. found ≡ slice_get rows 0)
    (rw c.among.ensures at c.read_one.ensures) (λ t. length t.document ≡ documents)
    (λ found t. length t.document ≡ documents
    → found ≡ option_map bytes (find (is_document n) t.document))
    (λ found t orderly is count.
    is ∙ ap (λ l. slice_get (map bytes l) 0) (document_among n documents t orderly count)
    ∙ first_mapped bytes (is_document n) t.document)
