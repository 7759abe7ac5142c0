use Rattle.std.proofs.Common.{◌≡◌, ◌∙◌, ◌+◌, Err, IfSome, Ok, ap, filter, find, length, map, min, slice_get}
use Rattle.std.specs.Option.{option_map}
use Rattle.std.proofs.lemmas.Result.{IfOk-weaker}
use Rattle.desk_base.proofs.Numbers.{numbers_equal}
use Rattle.sqlite.specs.Held.{state}
use Rattle.desk_history.specs.FromTables.{known_document}
use Rattle.desk_model.specs.Keys.{is_document}
use Rattle.desk_model.specs.Tables.{Tables}
use Rattle.desk_sql_layout.specs.Shown.{known_cells}
use Rattle.desk_sql_lookup.proofs.Among.{document_among}
use Rattle.desk_sql_layout.proofs.Causes.{never_cause}
use Rattle.desk_sql_lookup.proofs.DocumentQueries.{document_finds}
use Rattle.desk_sql_layout.proofs.Finding.{finds_mapped}
use Rattle.desk_sql_lookup.proofs.LookUps.{fails_too, rows_found, then_tells}
use Rattle.desk_sql_layout.proofs.Loops.{first_mapped, passed_mapped}
use Rattle.desk_sql_lookup.proofs.documents.document.Goals as goal

pub returns-in_err-found-clause-looks : goal.returns-in_err-found-clause-looks
returns-in_err-found-clause-looks g c =
    let n = c.args.number in
    let documents = c.args.documents in
    let p = is_document n in
    let fault = c.in_err-found.field-0.0 in
    let If = λ (t : Tables). length t.document ≡ documents in
    fails_too g.S.Store c.args.conn.now c.read_one.new.conn c.from_residual.result fault
    c.from_residual.ensures.1
    (λ found t. length t.document ≡ documents
    → found ≡ option_map known_document (find p t.document)) If
    (rows_found g.S.Store c.args.conn.now c.read_one.new.conn
    (finds_mapped known_cells known_document (document_finds (min n (documents + 1)))) (Err fault)
    (λ found rows. found ≡ slice_get rows 0) (rw c.among.ensures at c.in_err-found.ensures) If
    (λ found t. length t.document ≡ documents
    → found ≡ option_map known_document (find p t.document))
    (λ found t orderly is count.
    is ∙ ap (λ l. slice_get (map known_document l) 0) (document_among n documents t orderly count)
    ∙ first_mapped known_document p t.document))

pub returns-clause-looks : goal.returns-clause-looks
returns-clause-looks g c =
    let n = c.args.number in
    let documents = c.args.documents in
    let p = is_document n in
    let If = λ (t : Tables). length t.document ≡ documents in
    let old = c.args.conn.now in
    let new = c.read_one.new.conn in
    let first = rows_found g.S.Store old new
    (finds_mapped known_cells known_document (document_finds (min n (documents + 1))))
    (Ok c.in_ok-found.found)
    (λ found rows. found ≡ slice_get rows 0) (rw c.among.ensures at c.in_ok-found.ensures) If
    (λ found t. length t.document ≡ documents
    → found ≡ slice_get (map known_document (filter p t.document)) 0)
    (λ found t orderly is count.
    is ∙ ap (λ l. slice_get (map known_document l) 0)
    (document_among n documents t orderly count)) in
    then_tells g.S.Store old new first If c.with_number.result
    (λ found t. length t.document ≡ documents
    → found ≡ option_map known_document (find p t.document))
    (IfOk-weaker c.with_number.result _ _
    (λ kept same clean t held count.
    same ∙ first.found clean t held count ∙ first_mapped known_document p t.document)
    c.with_number.ensures.kept)
    (never_cause If (state g.S.Store old) (state g.S.Store new) c.with_number.result
    (IfSome c.in_ok-found.found (λ known. known.0 ≡ n))
    (λ clean t held count.
    rw (first.found clean t held count)
    (passed_mapped known_document p (λ known. known.0 ≡ n) (λ x is. numbers_equal x.number n is)
    t.document))
    c.with_number.ensures.cause)
