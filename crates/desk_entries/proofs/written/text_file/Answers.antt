use Rattle.std.proofs.Common.{◌≡◌, ◌∙◌, ◌≤◌, Some, length, true, ap, sym, subst, arith, rules}
use Rattle.std.specs.Prelude.{ok_or}
use Rattle.std.specs.Str.{is_utf8}
use Rattle.std.specs.String.{string_bytes}
use Rattle.std.proofs.lemmas.Str.{is_utf8-from_IsUtf8}
use Rattle.toml.specs.Data.{members_depth, members_have_valid_dates}
use Rattle.toml.specs.View.{table_view}
use Rattle.desk_base.specs.Results.{then_read}
use Rattle.desk_fill.specs.Reading.{fill_of_table}
use Rattle.desk_fill.specs.declared.fault.Flaw.TheVariants.{NotToml}
use Rattle.desk_fill.proofs.EntryLemmas.{read_text}
use Rattle.desk_entries.proofs.WrittenLemmas.{dates_of_document, depth_of_document, read_document}
use Rattle.desk_entries.proofs.written.text_file.Goals as goal

pub printed-requires : goal.printed-requires
printed-requires c = ap members_have_valid_dates c.in_ok-table.ensures
    ∙ dates_of_document c.args.texts.now

pub returns-then-as_str-le-FILL_BYTES-clause-reads_back : goal.returns-then-as_str-le-FILL_BYTES-clause-reads_back
returns-then-as_str-le-FILL_BYTES-clause-reads_back c are =
    let texts = c.args.texts.now in
    let text = string_bytes c.in_ok-text.text in
    let shallow : members_depth (table_view c.in_ok-table.table) ≤ 80 =
    subst (λ ms. members_depth ms ≤ 80) (sym c.in_ok-table.ensures) (depth_of_document texts) in
    let few : length texts ≤ 10000 = omega arith in
    let short : length text ≤ 4194304 = search rules in
    let utf8 : is_utf8 text ≡ true =
    subst (λ t. is_utf8 t ≡ true) c.as_str.ensures.value
    (is_utf8-from_IsUtf8 c.as_str.result.now c.as_str.utf8) in
    read_text text short utf8
    ∙ ap (λ o. then_read (ok_or o NotToml) fill_of_table)
    (c.in_ok-text.ensures.reads_back shallow ∙ ap Some c.in_ok-table.ensures)
    ∙ read_document texts are few
