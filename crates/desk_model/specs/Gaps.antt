-- What is missing for the notices of a release, before and after its freeze.
use Rattle.std.specs.Prelude.{ℕ, ◌==◌, ◌&&◌, ◌||◌, not, Bool, true, false, List, [], ◌∷◌, ◌++◌, codes}
use Rattle.std.specs.Prelude.{find, length, Option, Some, None, is_some, if◌then◌else◌}
use Rattle.std.specs.List.{flat_map, list_any}
use Rattle.std.specs.Option.{option_map_or, option_and_then}
use Rattle.std.specs.Str.{bytes_eq}
use Rattle.desk_model.specs.Bills.{extracted_text, first_uses, revision_text, texts_named}
use Rattle.desk_model.specs.Readings.{Readings}
use Rattle.desk_model.specs.declared.bill.TextOf.{TextOf}
use Rattle.desk_model.specs.declared.bill.TextOf.TheVariants.{Licence, Reference}
use Rattle.desk_model.specs.declared.gap.Gap.{Gap}
use Rattle.desk_model.specs.declared.gap.GapKind.{GapKind}
use Rattle.desk_model.specs.declared.gap.GapKind.TheVariants as missing
use Rattle.desk_model.specs.declared.reading.Conclusion.{Conclusion}
use Rattle.desk_model.specs.declared.row.AttachedRow.{AttachedRow}
use Rattle.desk_model.specs.declared.row.CatalogueRow.{CatalogueRow}
use Rattle.desk_model.specs.declared.row.ExtractedRow.{ExtractedRow}
use Rattle.desk_model.specs.declared.row.PackageRow.{PackageRow}
use Rattle.desk_model.specs.declared.row.ReleaseRow.{ReleaseRow}
use Rattle.desk_model.specs.declared.state.ReleaseState.{ReleaseState}
use Rattle.desk_model.specs.declared.state.ReleaseState.TheVariants.{Withdrawn}
use Rattle.desk_model.specs.declared.refusal.Refusal.TheVariants as why
use Rattle.desk_model.specs.declared.command.Answer.{Answer}
use Rattle.desk_model.specs.declared.command.Answer.TheVariants as answered

-- the word for what is missing
abbrev pub gap_name : GapKind → List ℕ
gap_name missing.Text = codes "text"
gap_name missing.Copyright = codes "copyright"
gap_name missing.Shipment = codes "shipment"
gap_name missing.Twice = codes "twice"

-- a value that is absent, or that says that there is none or that nobody knows (SPDX 2.3, 7.17 and
-- 10.2)
abbrev pub says_nothing : Option (List ℕ) → Bool
says_nothing None = true
says_nothing (Some value) = bytes_eq value (codes "NONE") || bytes_eq value (codes "NOASSERTION")

-- Texts

-- the terms of a conclusion that is an expression
abbrev pub conclusion_terms : Readings → Conclusion → List (List ℕ)
conclusion_terms w c = if w.is_expression c.profile c.text then w.terms c.profile c.text else []

-- the terms that a package may ship under: those chosen for it, or else all of its conclusion
abbrev pub possible_terms : Readings → Option Conclusion → List (List ℕ) → List (List ℕ)
possible_terms w conclusion [] = option_map_or (conclusion_terms w) conclusion []
possible_terms w conclusion (term ∷ terms) = term ∷ terms

-- the texts that these terms of a document name
abbrev pub terms_named : Readings → ℕ → List (List ℕ) → List TextOf
terms_named w d terms = flat_map (λ term. texts_named w d term) terms

-- the text of a revision of the catalogue for a release: that of its freeze or, before it, the one
-- in force
abbrev pub revision_for : List CatalogueRow → ReleaseRow → ℕ
revision_for catalogue row = if row.revision == 0 then length catalogue else row.revision

-- this is missing
abbrev pub gap : GapKind → ℕ → List ℕ → Gap
gap kind d subject = record { kind = kind; document = d; subject = subject }

-- a list of one if something holds, or else an empty list
abbrev pub one_if : Bool → Gap → List Gap
one_if holds found = if holds then found ∷ [] else []

-- a licence or an exception that a revision of the catalogue has no text of, or a reference of which
-- its document gives none
abbrev pub text_gaps : Readings → Option (List ℕ) → List ExtractedRow → TextOf → List Gap
text_gaps w catalogue extracted (Licence id) =
    one_if (not (is_some (option_and_then (λ text. w.licence_text text id) catalogue)))
    (gap missing.Text 0 id)
text_gaps w catalogue extracted (Reference d reference) =
    one_if (says_nothing (extracted_text extracted d reference)) (gap missing.Text d reference)

-- Packages and documents

-- a package whose copyright says nothing
abbrev pub copyright_gaps : PackageRow → List Gap
copyright_gaps p = one_if (says_nothing p.copyright) (gap missing.Copyright p.document p.id)

-- a document that has none of these packages
abbrev pub shipment_gaps : List PackageRow → AttachedRow → List Gap
shipment_gaps ps row = one_if (not (list_any (λ p. p.document == row.document) ps))
    (gap missing.Shipment row.document [])

-- versions that are equal, or both absent
abbrev pub is_same_version : Option (List ℕ) → Option (List ℕ) → Bool
is_same_version None None = true
is_same_version (Some a) (Some b) = bytes_eq a b
is_same_version _ _ = false

-- a package has the name and the version of this one
abbrev pub is_namesake : PackageRow → PackageRow → Bool
is_namesake p other = bytes_eq other.name p.name && is_same_version other.version p.version

-- a package whose first namesake among these, perhaps itself, is in another document
abbrev pub twice_gaps : List PackageRow → PackageRow → List Gap
twice_gaps ps p =
    one_if (option_map_or (λ other. not (other.document == p.document)) (find (is_namesake p) ps)
    false) (gap missing.Twice p.document p.id)

-- Releases

-- what the gaps of a release are looked up from
pub record Sources : Type 0 where
  -- the terms that each package may ship under
  pub terms : PackageRow → List (List ℕ)
  -- the text of the catalogue that counts
  pub catalogue : Option (List ℕ)
  -- the texts that documents give for references
  pub extracted : List ExtractedRow
  -- the documents that are attached, by number
  pub attached : List AttachedRow
  -- the packages that the release ships, by document and id
  pub shipped : List PackageRow

-- the texts that the terms of some packages name, in the order of first use, each once
abbrev pub texts_needed : Readings → (PackageRow → List (List ℕ)) → List PackageRow → List TextOf
texts_needed w terms ps = first_uses (flat_map (λ p. terms_named w p.document (terms p)) ps)

-- The gaps of a release: the texts of its packages' terms in the order of first use, the copyrights
-- of its packages, the documents that ship nothing, and the packages that it ships twice.
abbrev pub gaps_of : Readings → Sources → List Gap
gaps_of w from =
    flat_map (text_gaps w from.catalogue from.extracted) (texts_needed w from.terms from.shipped)
    ++ (flat_map copyright_gaps from.shipped
    ++ (flat_map (shipment_gaps from.shipped) from.attached
    ++ flat_map (twice_gaps from.shipped) from.shipped))

-- a release that was withdrawn ships nothing any more
abbrev pub gaps_answer : List Gap → ReleaseState → Answer
gaps_answer gaps Withdrawn = answered.Refused (why.ReleaseState Withdrawn)
gaps_answer gaps _ = answered.Gaps gaps
