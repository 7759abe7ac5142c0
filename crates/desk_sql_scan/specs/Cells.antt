-- The cells of each row as it is, in the order of its table's columns.
use Rattle.std.specs.Prelude.{ℕ, [], ◌∷◌, map}
use Rattle.std.specs.List.{range_with_len}
use Rattle.sqlite_value.specs.declared.value.Value.TheVariants.{Int, Text, Blob}
use Rattle.sqlite_value.specs.Order.{Row, column}
use Rattle.desk_sql_layout.specs.Cells.{text_or_null}
use Rattle.desk_snapshot.specs.declared.rows.StoredAdoption.{StoredAdoption}
use Rattle.desk_snapshot.specs.declared.rows.StoredAttached.{StoredAttached}
use Rattle.desk_snapshot.specs.declared.rows.StoredCatalogue.{StoredCatalogue}
use Rattle.desk_snapshot.specs.declared.rows.StoredChange.{StoredChange}
use Rattle.desk_snapshot.specs.declared.rows.StoredChoice.{StoredChoice}
use Rattle.desk_snapshot.specs.declared.rows.StoredConclusion.{StoredConclusion}
use Rattle.desk_snapshot.specs.declared.rows.StoredDocument.{StoredDocument}
use Rattle.desk_snapshot.specs.declared.rows.StoredDuty.{StoredDuty}
use Rattle.desk_snapshot.specs.declared.rows.StoredExtracted.{StoredExtracted}
use Rattle.desk_snapshot.specs.declared.rows.StoredFrozen.{StoredFrozen}
use Rattle.desk_snapshot.specs.declared.rows.StoredMeta.{StoredMeta}
use Rattle.desk_snapshot.specs.declared.rows.StoredPackage.{StoredPackage}
use Rattle.desk_snapshot.specs.declared.rows.StoredReading.{StoredReading}
use Rattle.desk_snapshot.specs.declared.rows.StoredRelease.{StoredRelease}
use Rattle.desk_snapshot.specs.declared.rows.StoredRule.{StoredRule}
use Rattle.desk_snapshot.specs.declared.rows.StoredWaiver.{StoredWaiver}

-- the first `width` columns of a row
abbrev pub columns_of : ℕ → Row → Row
columns_of width row = map (column row) (range_with_len 0 width)

-- a row of `meta`, whose version may be any
abbrev pub stored_meta_cells : StoredMeta → Row
stored_meta_cells row = Int row.version ∷ []

-- a row of `catalogue`: a number, and a text that may be no catalogue
abbrev pub stored_catalogue_cells : StoredCatalogue → Row
stored_catalogue_cells row = Int row.revision ∷ Text row.body ∷ []

-- a row of `rule`, with the codes as one text
abbrev pub stored_rule_cells : StoredRule → Row
stored_rule_cells row = Int row.revision ∷ Text row.term ∷ Text row.form ∷ Text row.spelled
    ∷ Text row.codes ∷ []

-- a row of `document`
abbrev pub stored_document_cells : StoredDocument → Row
stored_document_cells row = Int row.number ∷ Text row.namespace ∷ Blob row.bytes ∷ []

-- a row of `reading`, whose number may be that of no profile
abbrev pub stored_reading_cells : StoredReading → Row
stored_reading_cells row = Int row.document ∷ Int row.profile ∷ []

-- a row of `package`; `shipped` may be any number
abbrev pub stored_package_cells : StoredPackage → Row
stored_package_cells row =
    Int row.document ∷ Text row.id ∷ Text row.name ∷ text_or_null row.version
    ∷ text_or_null row.concluded ∷ text_or_null row.copyright
    ∷ Int row.shipped ∷ []

-- a row of `extracted`
abbrev pub stored_extracted_cells : StoredExtracted → Row
stored_extracted_cells row = Int row.document ∷ Text row.reference ∷ text_or_null row.body ∷ []

-- a row of `conclusion`
abbrev pub stored_conclusion_cells : StoredConclusion → Row
stored_conclusion_cells row = Int row.document ∷ Text row.package_id ∷ Text row.expression ∷ []

-- a row of `adoption`
abbrev pub stored_adoption_cells : StoredAdoption → Row
stored_adoption_cells row = Int row.document ∷ Text row.reference ∷ Text row.licence ∷ []

-- a row of `releases`; the state may be any text
abbrev pub stored_release_cells : StoredRelease → Row
stored_release_cells row = Text row.name ∷ Int row.place ∷ Text row.form ∷ Text row.state
    ∷ Int row.revision ∷ []

-- a row of `attached`
abbrev pub stored_attached_cells : StoredAttached → Row
stored_attached_cells row = Text row.release ∷ Int row.document ∷ []

-- a row of `choice`
abbrev pub stored_choice_cells : StoredChoice → Row
stored_choice_cells row = Text row.release ∷ Int row.document ∷ Text row.package_id ∷ Text row.term
    ∷ []

-- a row of `frozen`
abbrev pub stored_frozen_cells : StoredFrozen → Row
stored_frozen_cells row = Text row.release ∷ Int row.document ∷ Text row.package_id ∷ Text row.term
    ∷ Text row.rule ∷ []

-- a row of `duty`; the state may be any text
abbrev pub stored_duty_cells : StoredDuty → Row
stored_duty_cells row =
    Int row.number ∷ Text row.release ∷ Int row.document ∷ Text row.package_id ∷ Text row.term
    ∷ Text row.code ∷ Text row.rule ∷ Text row.state ∷ []

-- a row of `change`; day and word may be any texts
abbrev pub stored_change_cells : StoredChange → Row
stored_change_cells row = Int row.duty ∷ Int row.step ∷ Text row.day ∷ Text row.word ∷ Text row.body
    ∷ []

-- a row of `waiver`; the last day may be any text
abbrev pub stored_waiver_cells : StoredWaiver → Row
stored_waiver_cells row = Int row.duty ∷ Int row.step ∷ Text row.last_day ∷ []
