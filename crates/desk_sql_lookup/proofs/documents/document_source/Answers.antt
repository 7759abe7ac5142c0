use Rattle.std.proofs.Common.{◌≡◌, find, length, Err, Ok}
use Rattle.std.specs.Option.{option_map}
use Rattle.desk_history.specs.FromTables.{known_document}
use Rattle.desk_model.specs.Findings.{source_of}
use Rattle.desk_model.specs.Keys.{is_document}
use Rattle.desk_sql_lookup.proofs.LookUps.{fails_too, looks_then, then_tells}
use Rattle.desk_sql_lookup.proofs.documents.document_source.Goals as goal

pub returns-in_err-bytes : goal.returns-in_err-bytes
returns-in_err-bytes g c =
    let p = is_document c.args.number in
    let fault = c.in_err-bytes.field-0.0 in
    let both = looks_then g.S.Store c.args.conn.now c.document.new.conn c.document_bytes.new.conn
    (λ t. length t.document ≡ c.args.documents) c.in_ok-known.ensures.looks (Err fault)
    c.in_err-bytes.ensures
    (λ bytes t. length t.document ≡ c.args.documents
    → bytes ≡ option_map (λ row. row.bytes) (find p t.document)) (λ bytes t known is. is) in
    fails_too g.S.Store c.args.conn.now c.document_bytes.new.conn
    c.from_residual-in_err-bytes.result fault c.from_residual-in_err-bytes.ensures.1
    (λ found t. length t.document ≡ c.args.documents
    → found ≡ option_map source_of (find p t.document)) (λ t. length t.document ≡ c.args.documents)
    both

pub returns : goal.returns
returns g c =
    let p = is_document c.args.number in
    let both = looks_then g.S.Store c.args.conn.now c.document.new.conn c.document_bytes.new.conn
    (λ t. length t.document ≡ c.args.documents) c.in_ok-known.ensures.looks (Ok c.in_ok-bytes.bytes)
    c.in_ok-bytes.ensures
    (λ bytes t. length t.document ≡ c.args.documents
    → (bytes ≡ option_map (λ row. row.bytes) (find p t.document))
    × (c.in_ok-known.known ≡ option_map known_document (find p t.document)))
    (λ bytes t known is count. (is count, known count)) in
    then_tells g.S.Store c.args.conn.now c.document_bytes.new.conn both
    (λ t. length t.document ≡ c.args.documents) (Ok c.source_from.result)
    (λ found t. length t.document ≡ c.args.documents
    → found ≡ option_map source_of (find p t.document))
    (λ clean t held count. let it = both.found clean t held count in
    c.source_from.ensures (find p t.document) it.0 it.1)
    tt
