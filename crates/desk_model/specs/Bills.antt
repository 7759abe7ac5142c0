-- The bill of a frozen release: its packages with the rules that they were frozen with, and the
-- texts of their terms.
use Rattle.std.specs.Prelude.{ℕ, ◌==◌, ◌&&◌, not, Bool, false, List, [], ◌∷◌, ◌++◌, find, filter}
use Rattle.std.specs.Prelude.{map, Option, None, unwrap_or}
use Rattle.std.specs.List.{flat_map}
use Rattle.std.specs.Option.{option_map, option_map_or, option_and_then}
use Rattle.std.specs.Str.{bytes_eq}
use Rattle.desk_model.specs.Keys.{is_extracted, is_frozen_of, is_revision}
use Rattle.desk_model.specs.Readings.{Readings}
use Rattle.desk_model.specs.declared.bill.Bill.{Bill}
use Rattle.desk_model.specs.declared.bill.BillLine.{BillLine}
use Rattle.desk_model.specs.declared.bill.BillText.{BillText}
use Rattle.desk_model.specs.declared.bill.TextOf.{TextOf}
use Rattle.desk_model.specs.declared.bill.TextOf.TheVariants.{Licence, Reference}
use Rattle.desk_model.specs.declared.reading.LicenceText.{LicenceText}
use Rattle.desk_model.specs.declared.row.CatalogueRow.{CatalogueRow}
use Rattle.desk_model.specs.declared.row.ExtractedRow.{ExtractedRow}
use Rattle.desk_model.specs.declared.row.FrozenRow.{FrozenRow}
use Rattle.desk_model.specs.declared.row.PackageRow.{PackageRow}
use Rattle.desk_model.specs.declared.row.ReleaseRow.{ReleaseRow}
use Rattle.desk_model.specs.declared.state.ReleaseState.{ReleaseState}
use Rattle.desk_model.specs.declared.state.ReleaseState.TheVariants.{Frozen}
use Rattle.desk_model.specs.declared.refusal.Refusal.TheVariants as why
use Rattle.desk_model.specs.declared.command.Answer.{Answer}
use Rattle.desk_model.specs.declared.command.Answer.TheVariants as answered

-- Packages

-- the terms that a release was frozen with for a package, in their order
abbrev pub frozen_terms : List FrozenRow → List ℕ → PackageRow → List FrozenRow
frozen_terms frozen r p = filter (is_frozen_of r p.document p.id) frozen

-- the line of a package: its name and version, the rules of its frozen terms as the catalogue
-- spells them, and its copyright text
abbrev pub bill_line : List FrozenRow → List ℕ → PackageRow → BillLine
bill_line frozen r p = record {
  name = p.name;
  version = p.version;
  rules = map (λ row. row.rule) (frozen_terms frozen r p);
  copyright = p.copyright;
}

-- Texts

-- the texts that a term of a document names: that of its reference or licence, then that of its
-- exception
abbrev pub texts_named : Readings → ℕ → List ℕ → List TextOf
texts_named w d term =
    option_map_or (λ reference. Reference d reference) (w.reference term)
    (Licence (w.licence_id term))
    ∷ option_map_or (λ id. Licence id ∷ []) (w.exception term) []

-- those that a package's terms name
abbrev pub package_texts : Readings → List FrozenRow → List ℕ → PackageRow → List TextOf
package_texts w frozen r p = flat_map (λ row. texts_named w row.document row.term)
    (frozen_terms frozen r p)

-- it is the same text: that of one id, or that of one reference of one document
abbrev pub is_same_text : TextOf → TextOf → Bool
is_same_text (Licence id) (Licence other) = bytes_eq id other
is_same_text (Reference d reference) (Reference e other) = (d == e) && bytes_eq reference other
is_same_text _ _ = false

-- in the order of first use, each once
abbrev pub first_uses : List TextOf → List TextOf
first_uses [] = []
first_uses (text ∷ texts) = text
    ∷ filter (λ other. not (is_same_text text other)) (first_uses texts)

-- the text of a revision of the catalogue
abbrev pub revision_text : List CatalogueRow → ℕ → Option (List ℕ)
revision_text catalogue n = option_map (λ row. row.body) (find (is_revision n) catalogue)

-- the text that a document gives for a reference
abbrev pub extracted_text : List ExtractedRow → ℕ → List ℕ → Option (List ℕ)
extracted_text extracted d reference = option_and_then (λ row. row.body)
    (find (is_extracted d reference) extracted)

-- the text of a licence or an exception, with what the catalogue has for it
abbrev pub licence_bill : List ℕ → Option LicenceText → BillText
licence_bill id found = record {
  title = option_map_or (λ text. text.title) found id;
  body = option_map (λ text. text.body) found;
}

-- the title and the body of a text: those of a licence or an exception from the catalogue, those of
-- a reference from its document
abbrev pub bill_text : Readings → Option (List ℕ) → List ExtractedRow → TextOf → BillText
bill_text w catalogue extracted (Licence id) = licence_bill id
    (option_and_then (λ text. w.licence_text text id) catalogue)
bill_text w catalogue extracted (Reference d reference) = record {
  title = reference;
  body = extracted_text extracted d reference;
}

-- The bill of a release: the packages that it ships, and the texts of its frozen terms by the
-- catalogue of its freeze.
abbrev pub bill_of : Readings → List CatalogueRow → List ExtractedRow → List FrozenRow
    → List PackageRow → ReleaseRow → Bill
bill_of w catalogue extracted frozen ps row = record {
  release = row.name;
  form = row.form;
  lines = map (bill_line frozen row.name) ps;
  texts = map (bill_text w (revision_text catalogue row.revision) extracted)
      (first_uses (flat_map (package_texts w frozen row.name) ps));
}

-- only a frozen release has one
abbrev pub bill_answer : Bill → ReleaseState → Answer
bill_answer bill Frozen = answered.Bill bill
bill_answer bill state = answered.Refused (why.ReleaseState state)
