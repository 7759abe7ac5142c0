-- The cells of each row, in the order of its table's columns.
use Rattle.std.specs.Prelude.{ℕ, pos, Bool, not, ◌&&◌, ◌==◌, nat_lt, if◌then◌else◌, List, [], ◌∷◌}
use Rattle.std.specs.Prelude.{length, Option}
use Rattle.std.specs.List.{list_all, join_with_byte}
use Rattle.sqlite_value.specs.declared.value.Value.{Value}
use Rattle.sqlite_value.specs.declared.value.Value.TheVariants.{Int, Text, Blob}
use Rattle.sqlite_value.specs.Order.{Row}
use Rattle.sqlite.specs.Values.{or_null}
use Rattle.desk_base.specs.Profiles.{profile_number}
use Rattle.desk_model.specs.Names.{release_state_name, duty_state_name, word_name}
use Rattle.desk_model.specs.declared.row.CatalogueRow.{CatalogueRow}
use Rattle.desk_model.specs.declared.row.RuleRow.{RuleRow}
use Rattle.desk_model.specs.declared.row.DocumentRow.{DocumentRow}
use Rattle.desk_model.specs.declared.row.PackageRow.{PackageRow}
use Rattle.desk_model.specs.declared.row.ExtractedRow.{ExtractedRow}
use Rattle.desk_model.specs.declared.row.ConclusionRow.{ConclusionRow}
use Rattle.desk_model.specs.declared.row.AdoptionRow.{AdoptionRow}
use Rattle.desk_model.specs.declared.row.ReleaseRow.{ReleaseRow}
use Rattle.desk_model.specs.declared.row.AttachedRow.{AttachedRow}
use Rattle.desk_model.specs.declared.row.ChoiceRow.{ChoiceRow}
use Rattle.desk_model.specs.declared.row.FrozenRow.{FrozenRow}
use Rattle.desk_model.specs.declared.row.DutyRow.{DutyRow}
use Rattle.desk_model.specs.declared.row.ChangeRow.{ChangeRow}
use Rattle.desk_sql_layout.specs.Layout.{schema_version}

-- a natural number as an INTEGER
abbrev pub number : ℕ → Value
number n = Int (pos n)

-- a text, or NULL if there is none
abbrev pub text_or_null : Option (List ℕ) → Value
text_or_null = or_null Text

-- a word: it isn't empty and has no blank, so words joined by one blank can be separated again
abbrev pub is_word : List ℕ → Bool
is_word text = nat_lt 0 (length text) && list_all (λ byte. not (byte == 32)) text

-- the codes of a rule, joined by one blank
abbrev pub joined : List (List ℕ) → List ℕ
joined = join_with_byte 32

-- the one row of `meta`: the version
abbrev pub meta_cells : Row
meta_cells = number schema_version ∷ []

-- a revision: its number, and the text of the catalogue as it was loaded
abbrev pub catalogue_cells : CatalogueRow → Row
catalogue_cells row = number row.revision ∷ Text row.body ∷ []

-- a rule: its revision, its term in small letters, its form, the term as it is spelled, and its
-- codes
abbrev pub rule_cells : RuleRow → Row
rule_cells row = number row.revision ∷ Text row.term ∷ Text row.form ∷ Text row.spelled
    ∷ Text (joined row.codes) ∷ []

-- a document: its number, its namespace, and its bytes as they were imported
abbrev pub document_cells : DocumentRow → Row
document_cells row = number row.number ∷ Text row.namespace ∷ Blob row.bytes ∷ []

-- the profile of a document, by its number
abbrev pub reading_cells : DocumentRow → Row
reading_cells row = number row.number ∷ number (profile_number row.profile) ∷ []

-- a package of a document; a field that isn't there is NULL, and `shipped` is 1 or 0
abbrev pub package_cells : PackageRow → Row
package_cells row =
    number row.document ∷ Text row.id ∷ Text row.name ∷ text_or_null row.version
    ∷ text_or_null row.concluded ∷ text_or_null row.copyright
    ∷ number (if row.shipped then 1 else 0) ∷ []

-- a reference that a document defines, and its text
abbrev pub extracted_cells : ExtractedRow → Row
extracted_cells row = number row.document ∷ Text row.reference ∷ text_or_null row.body ∷ []

-- a conclusion of the office: the package, and the expression as it is written
abbrev pub conclusion_cells : ConclusionRow → Row
conclusion_cells row = number row.document ∷ Text row.package_id ∷ Text row.expression ∷ []

-- an adoption: a document's reference, and the licence as which it counts
abbrev pub adoption_cells : AdoptionRow → Row
adoption_cells row = number row.document ∷ Text row.reference ∷ Text row.licence ∷ []

-- a release: its name, its place among all from 1, its form, the name of its state, and the
-- revision by which it was frozen, or 0
abbrev pub release_cells : ReleaseRow → Row
release_cells row = Text row.name ∷ number row.place ∷ Text row.form
    ∷ Text (release_state_name row.state) ∷ number row.revision ∷ []

-- a release, and a document that is attached to it
abbrev pub attached_cells : AttachedRow → Row
attached_cells row = Text row.release ∷ number row.document ∷ []

-- a term that is chosen for a package in a release; a choice of several terms has a row for each
abbrev pub choice_cells : ChoiceRow → Row
choice_cells row = Text row.release ∷ number row.document ∷ Text row.package_id ∷ Text row.term ∷ []

-- a term with which a package was frozen, and that term as its rule spells it
abbrev pub frozen_cells : FrozenRow → Row
frozen_cells row = Text row.release ∷ number row.document ∷ Text row.package_id ∷ Text row.term
    ∷ Text row.rule ∷ []

-- a duty: its number, what raised it, its code, and the name of its state
abbrev pub duty_cells : DutyRow → Row
duty_cells row =
    number row.number ∷ Text row.release ∷ number row.document ∷ Text row.package_id ∷ Text row.term
    ∷ Text row.code ∷ Text row.rule
    ∷ Text (duty_state_name row.state) ∷ []

-- a change of a duty; the last day of a waiver is in a table of its own
abbrev pub change_cells : ChangeRow → Row
change_cells row = number row.duty ∷ number row.step ∷ Text row.day ∷ Text (word_name row.word)
    ∷ Text row.body ∷ []

-- its last day
abbrev pub waiver_cells : ChangeRow → Row
waiver_cells row = number row.duty ∷ number row.step ∷ text_or_null row.last_day ∷ []
