use Rattle.std.proofs.Common.{◌∙◌, ap, false}
use Rattle.std.specs.Prelude.{ok_or}
use Rattle.toml.proofs.ReadBack.{parse_document-printed}
use Rattle.desk_base.specs.Results.{then_read}
use Rattle.desk_fill.specs.Reading.{fill_of_table}
use Rattle.desk_fill.specs.declared.fault.Flaw.TheVariants.{NotToml}
use Rattle.desk_fill.proofs.EntryLemmas.{read_text}
use Rattle.desk_entries.proofs.EntryLemmas.{sifted_are_entries}
use Rattle.desk_entries.proofs.WrittenLemmas.{dates_of_document, depth_of_document, read_document, sorted_document}
use Rattle.desk_entries.specs.Sifting.{sifted}
use Rattle.desk_entries.specs.Written.{text_document}
use Rattle.desk_entries.proofs.laws.written_texts_are_read.Goals as goal

pub returns-clause-entries : goal.returns-clause-entries
returns-clause-entries c = sifted_are_entries

pub returns-clause-back : goal.returns-clause-back
returns-clause-back c files file is few short utf8 =
    let texts = (sifted files).texts in
    read_text file short utf8
    ∙ ap (λ o. then_read (ok_or o NotToml) fill_of_table)
    (parse_document-printed false (text_document texts) file is (depth_of_document texts)
    (dates_of_document texts) (sorted_document texts))
    ∙ read_document texts (sifted_are_entries files) few
