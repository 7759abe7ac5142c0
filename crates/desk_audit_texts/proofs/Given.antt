-- The rows that a catalogue or a document gives.
use Rattle.std.proofs.Common.{◌≡◌, [], map, Some, Ok, sym, ap}
use Rattle.std.specs.Prelude.{is_some, true}
use Rattle.std.specs.Option.{option_map_or}
use Rattle.std.specs.Result.{result_ok}
use Rattle.desk_model.specs.History.{rules_in}
use Rattle.desk_model.specs.Readings.{Readings}
use Rattle.desk_model.specs.declared.reading.Catalogue.{Catalogue}
use Rattle.desk_model.specs.declared.reading.Document.{Document}
use Rattle.desk_snapshot.specs.Conditions.{document_in, extracted_by, packages_by, rules_by}
use Rattle.desk_snapshot.specs.Conditions.{stored_extracted, stored_package, stored_rule}
use Rattle.desk_snapshot.specs.declared.rows.StoredCatalogue.{StoredCatalogue}
use Rattle.desk_snapshot.specs.declared.rows.StoredDocument.{StoredDocument}

pub body_read : (w : Readings) (row : StoredCatalogue) (read : Catalogue)
    → Ok read ≡ w.catalogue row.body
    → is_some (result_ok (w.catalogue row.body)) ≡ true
body_read w row read e = ap (λ r. is_some (result_ok r)) (sym e)

pub rules_given : (w : Readings) (row : StoredCatalogue) (read : Catalogue)
    → Ok read ≡ w.catalogue row.body
    → rules_by w row ≡ map (stored_rule row.revision) read.rules
rules_given w row read e = ap (λ r. map (stored_rule row.revision) (rules_in (result_ok r))) (sym e)

pub packages_given : (w : Readings) (row : StoredDocument) (document : Document)
    → document_in w row ≡ Some document
    → packages_by w row ≡ map (stored_package row.number) document.packages
packages_given w row document e = ap (λ d. option_map_or
    (λ read. map (stored_package row.number) read.packages) d []) e

pub extracted_given : (w : Readings) (row : StoredDocument) (document : Document)
    → document_in w row ≡ Some document
    → extracted_by w row ≡ map (stored_extracted row.number) document.references
extracted_given w row document e = ap (λ d. option_map_or
    (λ read. map (stored_extracted row.number) read.references) d []) e
