-- The orders of the tables that `desk_snapshot` lists as they come, by their keys.
use Rattle.std.specs.Ordering.{then_cmp}
use Rattle.std.specs.declared.cmp.Ordering.{Ordering}
use Rattle.desk_snapshot.specs.Orders.{by_number, by_text}
use Rattle.desk_snapshot.specs.declared.rows.StoredAdoption.{StoredAdoption}
use Rattle.desk_snapshot.specs.declared.rows.StoredCatalogue.{StoredCatalogue}
use Rattle.desk_snapshot.specs.declared.rows.StoredDocument.{StoredDocument}
use Rattle.desk_snapshot.specs.declared.rows.StoredDuty.{StoredDuty}
use Rattle.desk_snapshot.specs.declared.rows.StoredExtracted.{StoredExtracted}
use Rattle.desk_snapshot.specs.declared.rows.StoredMeta.{StoredMeta}
use Rattle.desk_snapshot.specs.declared.rows.StoredRule.{StoredRule}

-- versions; a sound desk has one row
abbrev pub meta_order : StoredMeta → StoredMeta → Ordering
meta_order = by_number (λ row. row.version)

-- revisions by number
abbrev pub catalogue_order : StoredCatalogue → StoredCatalogue → Ordering
catalogue_order = by_number (λ row. row.revision)

-- rules by revision, then by term and form, byte by byte
abbrev pub rule_order : StoredRule → StoredRule → Ordering
rule_order = then_cmp (by_number (λ row. row.revision))
    (then_cmp (by_text (λ row. row.term)) (by_text (λ row. row.form)))

-- documents by number
abbrev pub document_order : StoredDocument → StoredDocument → Ordering
document_order = by_number (λ row. row.number)

-- extracted licences by document, then by reference, byte by byte
abbrev pub extracted_order : StoredExtracted → StoredExtracted → Ordering
extracted_order = then_cmp (by_number (λ row. row.document)) (by_text (λ row. row.reference))

-- adoptions by document, then by reference, byte by byte
abbrev pub adoption_order : StoredAdoption → StoredAdoption → Ordering
adoption_order = then_cmp (by_number (λ row. row.document)) (by_text (λ row. row.reference))

-- duties by number
abbrev pub duty_order : StoredDuty → StoredDuty → Ordering
duty_order = by_number (λ row. row.number)
