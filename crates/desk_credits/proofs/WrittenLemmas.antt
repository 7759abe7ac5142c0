-- What is written of a credit reads back.
use Rattle.std.proofs.Common.{◌≡◌, ◌∙◌, ℕ, suc, ◌≤◌, true, false, List, [], ◌∷◌}
use Rattle.std.proofs.Common.{length, ap, refl, sym, arith, Option, Some, None}
use Rattle.std.specs.Prelude.{◌==◌, Ok, ok_or}
use Rattle.std.specs.Str.{is_utf8}
use Rattle.toml_parser.specs.Lexical.{first, skip_blank}
use Rattle.toml.specs.Data.{members_depth, members_have_valid_dates, members_are_sorted}
use Rattle.toml.specs.Parse.{lines, parse_document, skip_bom}
use Rattle.toml.specs.Tables.{no_nodes}
use Rattle.toml.specs.Text.{IsDocumentText, expressions}
use Rattle.toml.proofs.ReadBack.{parse_document-printed}
use Rattle.toml.proofs.ReadLines.{AllPrinted, read_lines}
use Rattle.desk_base.specs.Results.{then_read}
use Rattle.desk_fill.specs.declared.fault.Flaw.TheVariants.{NotToml}
use Rattle.desk_fill.specs.declared.fill.Credit.{Credit}
use Rattle.desk_fill.specs.Reading.{fill_of, fill_of_table}
use Rattle.desk_fill.specs.Values.{says_something}
use Rattle.desk_fill.proofs.EntryLemmas.{read_text}
use Rattle.desk_credits.specs.declared.notice.Notice.{Notice}
use Rattle.desk_credits.specs.Written.{IsCreditFile, credit_document}
use Rattle.desk_credits.proofs.CommentLemmas.{begins_otherwise, skip_comments}

-- ---- the table

credit_read : (name : List ℕ) (version : Option (List ℕ)) (text : List ℕ)
    → says_something text ≡ true
    → fill_of_table (credit_document (record { name = name; version = version; text = text }))
    ≡ Ok (record { texts = []; credits = record { name = name; version = version; text = text } ∷ [] })
credit_read name None text says = rw says refl
credit_read name (Some version) text says = rw says refl

shallow : (name : List ℕ) (version : Option (List ℕ)) (text : List ℕ)
    → members_depth (credit_document (record { name = name; version = version; text = text })) ≤ 80
shallow name None text = omega arith
shallow name (Some version) text = omega arith

dates : (name : List ℕ) (version : Option (List ℕ)) (text : List ℕ) → members_have_valid_dates
    (credit_document (record { name = name; version = version; text = text })) ≡ true
dates name None text = refl
dates name (Some version) text = refl

sorted : (name : List ℕ) (version : Option (List ℕ)) (text : List ℕ) → members_are_sorted
    (credit_document (record { name = name; version = version; text = text })) ≡ true
sorted name None text = refl
sorted name (Some version) text = refl

printed : (name : List ℕ) (version : Option (List ℕ)) (text : List ℕ) → AllPrinted (expressions
    (credit_document (record { name = name; version = version; text = text })))
printed name None text = (omega arith, ((refl, omega arith, refl), ((refl, omega arith, refl), tt)))
printed name (Some version) text =
    (omega arith, ((refl, omega arith, refl), ((refl, omega arith, refl), ((refl, omega arith, refl), tt))))

-- ---- the document behind comments

no_mark : (text : List ℕ) → (first text == 239) ≡ false → skip_bom text ≡ text
unfolding skip_bom
no_mark text is = rw is

begins : (credit : Credit) (text : List ℕ) → IsDocumentText false (credit_document credit) text
    → (first text == 239) ≡ false
begins credit text (this, rest, whole, line, more) = rw (whole, line) refl

same_document : (file text : List ℕ) → skip_bom file ≡ file → skip_bom text ≡ text
    → lines (suc (length file)) (no_nodes, []) file ≡ lines (suc (length text)) (no_nodes, []) text
    → parse_document file ≡ parse_document text
unfolding parse_document
same_document file text a b same = rw (a, b, same) refl

pub parse_file : (notices : List Notice) (credit : Credit) (file : List ℕ)
    → IsCreditFile notices credit file → parse_document file ≡ Some (credit_document credit)
parse_file notices credit file (text, is, whole) =
    let es = expressions (credit_document credit) in
    let all = printed credit.name credit.version credit.text in
    let skip : skip_blank file ≡ skip_blank text = ap skip_blank whole ∙ skip_comments notices text in
    let start = begins credit text is in
    let file_start : (first file == 239) ≡ false =
    ap (λ t. first t == 239) whole ∙ begins_otherwise notices text start in
    let there = read_lines false false es text file (no_nodes, []) (suc (length file)) is all skip
    (omega arith) in
    let here = read_lines false false es text text (no_nodes, []) (suc (length text)) is all refl
    (omega arith) in
    same_document file text (no_mark file file_start) (no_mark text start) (there ∙ sym here)
    ∙ parse_document-printed false (credit_document credit) text is
    (shallow credit.name credit.version credit.text) (dates credit.name credit.version credit.text)
    (sorted credit.name credit.version credit.text)

-- what is written is read back
pub file_read : (notices : List Notice) (credit : Credit) (file : List ℕ)
    → IsCreditFile notices credit file → says_something credit.text ≡ true
    → length file ≤ 4194304 → is_utf8 file ≡ true
    → fill_of file ≡ Ok (record { texts = []; credits = credit ∷ [] })
file_read notices credit file is says short utf8 =
    read_text file short utf8
    ∙ ap (λ o. then_read (ok_or o NotToml) fill_of_table) (parse_file notices credit file is)
    ∙ credit_read credit.name credit.version credit.text says

pub dates_of_document : (credit : Credit)
    → members_have_valid_dates (credit_document credit) ≡ true
dates_of_document credit = dates credit.name credit.version credit.text
