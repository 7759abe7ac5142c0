-- The keys of rows: the order of each table, and the rows with a key.
use Rattle.std.specs.Prelude.{ℕ, ◌==◌, ◌&&◌, ◌||◌, nat_lt, Bool, List}
use Rattle.std.specs.Str.{bytes_eq}
use Rattle.std.specs.Ordering.{nat_cmp, is_lt, on, then_cmp}
use Rattle.std.specs.Cmp.Lexicographic.{slice_cmp}
use Rattle.std.specs.declared.cmp.Ordering.{Ordering}
use Rattle.desk_model.specs.Texts.{text_below}
use Rattle.desk_model.specs.declared.reading.Rule.{Rule}
use Rattle.desk_model.specs.declared.row.CatalogueRow.{CatalogueRow}
use Rattle.desk_model.specs.declared.row.ExtractedRow.{ExtractedRow}
use Rattle.desk_model.specs.declared.row.RuleRow.{RuleRow}
use Rattle.desk_model.specs.declared.row.DocumentRow.{DocumentRow}
use Rattle.desk_model.specs.declared.row.PackageRow.{PackageRow}
use Rattle.desk_model.specs.declared.row.ConclusionRow.{ConclusionRow}
use Rattle.desk_model.specs.declared.row.AdoptionRow.{AdoptionRow}
use Rattle.desk_model.specs.declared.row.ReleaseRow.{ReleaseRow}
use Rattle.desk_model.specs.declared.row.AttachedRow.{AttachedRow}
use Rattle.desk_model.specs.declared.row.ChoiceRow.{ChoiceRow}
use Rattle.desk_model.specs.declared.row.FrozenRow.{FrozenRow}
use Rattle.desk_model.specs.declared.row.DutyRow.{DutyRow}
use Rattle.desk_model.specs.declared.row.ChangeRow.{ChangeRow}

-- one row before another, by the order of their keys
abbrev pub below_by : {A : Type 0} → (A → A → Ordering) → A → A → Bool
below_by order a b = is_lt (order a b)

-- releases by name
abbrev pub release_below : ReleaseRow → ReleaseRow → Bool
release_below a b = text_below a.name b.name

-- attached documents by release, then by number
abbrev pub attached_order : AttachedRow → AttachedRow → Ordering
attached_order = then_cmp (on (λ row. row.release) (slice_cmp nat_cmp))
    (on (λ row. row.document) nat_cmp)

-- choices by release, document, package and term
abbrev pub choice_order : ChoiceRow → ChoiceRow → Ordering
choice_order =
    then_cmp (on (λ row. row.release) (slice_cmp nat_cmp))
    (then_cmp (on (λ row. row.document) nat_cmp)
    (then_cmp (on (λ row. row.package_id) (slice_cmp nat_cmp))
    (on (λ row. row.term) (slice_cmp nat_cmp))))

-- frozen terms by release, document, package and term
abbrev pub frozen_order : FrozenRow → FrozenRow → Ordering
frozen_order =
    then_cmp (on (λ row. row.release) (slice_cmp nat_cmp))
    (then_cmp (on (λ row. row.document) nat_cmp)
    (then_cmp (on (λ row. row.package_id) (slice_cmp nat_cmp))
    (on (λ row. row.term) (slice_cmp nat_cmp))))

-- conclusions by document and package
abbrev pub conclusion_order : ConclusionRow → ConclusionRow → Ordering
conclusion_order = then_cmp (on (λ row. row.document) nat_cmp)
    (on (λ row. row.package_id) (slice_cmp nat_cmp))

-- adoptions by document and reference
abbrev pub adoption_order : AdoptionRow → AdoptionRow → Ordering
adoption_order = then_cmp (on (λ row. row.document) nat_cmp)
    (on (λ row. row.reference) (slice_cmp nat_cmp))

-- extracted texts by document and reference
abbrev pub extracted_order : ExtractedRow → ExtractedRow → Ordering
extracted_order = then_cmp (on (λ row. row.document) nat_cmp)
    (on (λ row. row.reference) (slice_cmp nat_cmp))

-- changes by duty, then by step
abbrev pub change_below : ChangeRow → ChangeRow → Bool
change_below a b = nat_lt a.duty b.duty || ((a.duty == b.duty) && nat_lt a.step b.step)

-- the rule for a printed term and a form
abbrev pub is_rule : List ℕ → List ℕ → Rule → Bool
is_rule term form rule = bytes_eq rule.term term && bytes_eq rule.form form

-- the rule of a revision for a term and a form
abbrev pub is_rule_at : ℕ → List ℕ → List ℕ → RuleRow → Bool
is_rule_at revision term form row = (row.revision == revision)
    && (bytes_eq row.term term && bytes_eq row.form form)

-- the revision with this number
abbrev pub is_revision : ℕ → CatalogueRow → Bool
is_revision revision row = row.revision == revision

-- a rule of this revision
abbrev pub is_rule_of : ℕ → RuleRow → Bool
is_rule_of revision row = row.revision == revision

-- the document with this number
abbrev pub is_document : ℕ → DocumentRow → Bool
is_document number row = row.number == number

-- the document with this namespace; only one has it
abbrev pub has_namespace : List ℕ → DocumentRow → Bool
has_namespace namespace row = bytes_eq row.namespace namespace

-- the package with this id in this document
abbrev pub is_package : ℕ → List ℕ → PackageRow → Bool
is_package document id row = (row.document == document) && bytes_eq row.id id

-- a package that this document ships
abbrev pub is_shipped_by : ℕ → PackageRow → Bool
is_shipped_by document row = (row.document == document) && row.shipped

-- the text for this reference in this document
abbrev pub is_extracted : ℕ → List ℕ → ExtractedRow → Bool
is_extracted document reference row = (row.document == document) && bytes_eq row.reference reference

-- the release with this name
abbrev pub is_release : List ℕ → ReleaseRow → Bool
is_release name row = bytes_eq row.name name

-- a document that is attached to this release
abbrev pub is_attached_to : List ℕ → AttachedRow → Bool
is_attached_to release row = bytes_eq row.release release

-- this document, attached to this release
abbrev pub is_attachment : List ℕ → ℕ → AttachedRow → Bool
is_attachment release document row = bytes_eq row.release release && (row.document == document)

-- the conclusion for this package of this document
abbrev pub is_conclusion : ℕ → List ℕ → ConclusionRow → Bool
is_conclusion document id row = (row.document == document) && bytes_eq row.package_id id

-- the adoption of this reference of this document
abbrev pub is_adoption : ℕ → List ℕ → AdoptionRow → Bool
is_adoption document reference row = (row.document == document) && bytes_eq row.reference reference

-- an adoption of some reference of this document
abbrev pub is_adoption_in : ℕ → AdoptionRow → Bool
is_adoption_in document row = row.document == document

-- a term chosen for this package in this release; there is a row for each
abbrev pub is_choice_of : List ℕ → ℕ → List ℕ → ChoiceRow → Bool
is_choice_of release document id row = bytes_eq row.release release && (row.document == document)
    && bytes_eq row.package_id id

-- a term chosen for some package in this release
abbrev pub is_choice_in : List ℕ → ChoiceRow → Bool
is_choice_in release row = bytes_eq row.release release

-- a term that this release was frozen with for this package
abbrev pub is_frozen_of : List ℕ → ℕ → List ℕ → FrozenRow → Bool
is_frozen_of release document id row = bytes_eq row.release release && (row.document == document)
    && bytes_eq row.package_id id

-- the duty with this number
abbrev pub is_duty : ℕ → DutyRow → Bool
is_duty number row = row.number == number

-- a duty of this release
abbrev pub is_duty_of : List ℕ → DutyRow → Bool
is_duty_of release row = bytes_eq row.release release

-- a change of this duty
abbrev pub is_change_of : ℕ → ChangeRow → Bool
is_change_of duty row = row.duty == duty

-- packages by document and id
abbrev pub package_order : PackageRow → PackageRow → Ordering
package_order = then_cmp (on (λ row. row.document) nat_cmp) (on (λ row. row.id) (slice_cmp nat_cmp))

-- rules of a catalogue by term and form
abbrev pub rule_order : Rule → Rule → Ordering
rule_order = then_cmp (on (λ rule. rule.term) (slice_cmp nat_cmp))
    (on (λ rule. rule.form) (slice_cmp nat_cmp))
