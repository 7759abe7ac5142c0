use Rattle.std.proofs.Common.{◌≡◌, ◌∙◌, ◌+◌, ap, find, length, min, slice_get}
use Rattle.desk_base.proofs.Lists.{first_found}
use Rattle.desk_model.specs.Keys.{is_package}
use Rattle.desk_sql_lookup.proofs.Among.{package_among}
use Rattle.desk_sql_lookup.proofs.DocumentQueries.{package_finds}
use Rattle.desk_sql_lookup.proofs.LookUps.{rows_found}
use Rattle.desk_sql_lookup.proofs.documents.package_row.Goals as goal

pub returns : goal.returns
returns g c =
    let n = c.args.document in
    let id = c.args.id.now in
    let documents = c.args.documents in
    rows_found g.S.Store c.args.conn.now c.read_one.new.conn
    (package_finds (min n (documents + 1)) id)
    c.read_one.result (λ found rows. found ≡ slice_get rows 0)
    (rw (c.among.ensures, c.text.ensures) at c.read_one.ensures)
    (λ t. length t.document ≡ documents)
    (λ found t. length t.document ≡ documents → found ≡ find (is_package n id) t.packages)
    (λ found t orderly is count.
    is ∙ ap (λ l. slice_get l 0) (package_among n documents id t orderly count)
    ∙ first_found (is_package n id) t.packages)
