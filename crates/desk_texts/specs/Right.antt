-- Which readings are right: those that say of each text what it spells.
use Rattle.std.specs.Prelude.{◌≡◌, ℕ, Bool, List, Option, Result}
use Rattle.desk_fields.specs.declared.fault.DocFault.{DocFault}
use Rattle.desk_model.specs.Readings.{Readings}
use Rattle.desk_base.specs.declared.profile.Profile.{Profile}
use Rattle.desk_model.specs.declared.reading.Verdict.{Verdict}
use Rattle.desk_model.specs.declared.reading.Document.{Document}
use Rattle.desk_model.specs.declared.reading.Cheapest.{Cheapest}
use Rattle.desk_model.specs.declared.reading.ListFault.{ListFault}
use Rattle.desk_model.specs.declared.refusal.DocumentFault.{DocumentFault}
use Rattle.desk_model.specs.declared.refusal.ExpressionFault.{ExpressionFault}
use Rattle.desk_model.specs.declared.finding.Finding.{Finding}
use Rattle.desk_catalogue.specs.Reading.{catalogue_of}
use Rattle.desk_catalogue.specs.Terms.{ReadsTerms}
use Rattle.desk_tagvalue.specs.Documents.{Spells}
use Rattle.desk_tagvalue.specs.Parts.{DocumentText}
use Rattle.desk_texts.specs.Catalogues.{kept_catalogue, licence_text_in}
use Rattle.desk_texts.specs.Documents.{Keeps}
use Rattle.desk_texts.specs.Expressions.{Tells, IsFault, Judges}
use Rattle.desk_texts.specs.Findings.{Finds}
use Rattle.desk_texts.specs.Listings.{Lists, HasTerms, Prices}
use Rattle.desk_texts.specs.Terms.{reference_in, is_licence, adopted_as, licence_id_in, exception_in}

-- each reading says of each text what the definitions of the standards and of the catalogue's
-- format say
pub record AreRight (w : Readings) : Type 0 where
  -- the licence term that a text spells, as printed
  pub term : ReadsTerms w.term
  -- the catalogue that a text is, of which the forms and the rules are kept, or its fault
  pub catalogue : (text : List ℕ) → w.catalogue text ≡ kept_catalogue (catalogue_of w.term text)
  -- the document that bytes spell, with what ships, or their fault
  pub document : (bytes : List ℕ) (read : Result DocumentText DocFault)
      (kept : Result Document DocumentFault) → Spells bytes read → Keeps read kept
      → w.document bytes ≡ kept
  -- the reference that a printed term names
  pub reference : (term : List ℕ) → w.reference term ≡ reference_in term
  -- whether a printed term is a licence alone
  pub licence : (term : List ℕ) → w.is_licence term ≡ is_licence term
  -- a licence with the exception of a printed term
  pub adopted : (licence term : List ℕ) → w.adopted_as licence term ≡ adopted_as licence term
  -- the id of the licence that a printed term names
  pub licence_id : (term : List ℕ) → w.licence_id term ≡ licence_id_in term
  -- the exception of a printed term
  pub exception : (term : List ℕ) → w.exception term ≡ exception_in term
  -- the text of a licence or an exception in the catalogue that a text is
  pub licence_text : (text id : List ℕ)
      → w.licence_text text id ≡ licence_text_in (catalogue_of w.term text) id
  -- whether a value is a licence expression by a profile of operators
  pub expression : (profile : Profile) (text : List ℕ) (tells : Bool) → Tells profile text tells
      → w.is_expression profile text ≡ tells
  -- why a value is no licence expression, if it is none
  pub fault : (profile : Profile) (text : List ℕ) (f : Option ExpressionFault)
      → IsFault profile text f → w.expression_fault profile text ≡ f
  -- how terms satisfy the expression of a value
  pub verdict : (profile : Profile) (text : List ℕ) (words : List (List ℕ)) (verdict : Verdict)
      → Judges profile text words verdict → w.verdict profile text words ≡ verdict
  -- the minimal sets of the expression of a value, as printed
  pub alternatives : (profile : Profile) (text : List ℕ)
      (listing : Result (List (List (List ℕ))) ListFault) → Lists profile text listing
      → w.alternatives profile text ≡ listing
  -- the distinct terms of the expression of a value, as printed
  pub terms : (profile : Profile) (text : List ℕ) (terms : List (List ℕ))
      → HasTerms profile text terms → w.terms profile text ≡ terms
  -- the cheapest set of the expression of a value, by the costs of printed terms
  pub cheapest : (profile : Profile) (text : List ℕ) (cost : List ℕ → Option ℕ)
      (priced : Result (Option Cheapest) ListFault) → Prices profile text cost priced
      → w.cheapest profile text cost ≡ priced
  -- the findings of the document that bytes spell, by a profile of operators
  pub findings : (profile : Profile) (bytes : List ℕ) (read : Result DocumentText DocFault)
      (found : List Finding) → Spells bytes read → Finds profile read found
      → w.findings profile bytes ≡ found
