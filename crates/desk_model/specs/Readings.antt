-- What texts say. The definitions of the history take it as an argument; which reading is right is
-- said where texts are read: of licence expressions by SPDX 2.3, Annex D, of documents by its
-- tag-value form.
use Rattle.std.specs.Prelude.{ℕ, Bool, List, Option, Result}
use Rattle.desk_model.specs.declared.reading.Catalogue.{Catalogue}
use Rattle.desk_model.specs.declared.reading.Document.{Document}
use Rattle.desk_model.specs.declared.reading.LicenceText.{LicenceText}
use Rattle.desk_base.specs.declared.profile.Profile.{Profile}
use Rattle.desk_model.specs.declared.reading.Verdict.{Verdict}
use Rattle.desk_model.specs.declared.reading.ListFault.{ListFault}
use Rattle.desk_model.specs.declared.reading.Cheapest.{Cheapest}
use Rattle.desk_model.specs.declared.finding.Finding.{Finding}
use Rattle.desk_model.specs.declared.refusal.CatalogueFault.{CatalogueFault}
use Rattle.desk_model.specs.declared.refusal.DocumentFault.{DocumentFault}
use Rattle.desk_model.specs.declared.refusal.ExpressionFault.{ExpressionFault}

-- all ways in which the desk reads a text; each is a function, so a text says the same each time
pub record Readings : Type 0 where
  -- the catalogue that a text is, or its fault
  pub catalogue : List ℕ → Result Catalogue CatalogueFault
  -- the document that bytes spell, or their fault
  pub document : List ℕ → Result Document DocumentFault
  -- the licence term that a text spells, printed
  pub term : List ℕ → Option (List ℕ)
  -- the reference that a printed term names, without its exception
  pub reference : List ℕ → Option (List ℕ)
  -- whether a printed term is a licence alone: no reference, no plus, no exception
  pub is_licence : List ℕ → Bool
  -- a licence, with the exception of a printed term
  pub adopted_as : List ℕ → List ℕ → List ℕ
  -- the id of the licence that a printed term names, without its plus and exception, if it names no
  -- reference
  pub licence_id : List ℕ → List ℕ
  -- the exception of a printed term, if it has one
  pub exception : List ℕ → Option (List ℕ)
  -- the text of a licence or an exception in the catalogue that a text is, by its id
  pub licence_text : List ℕ → List ℕ → Option LicenceText
  -- whether a text is a licence expression
  pub is_expression : Profile → List ℕ → Bool
  -- why a text isn't a licence expression, if it isn't one
  pub expression_fault : Profile → List ℕ → Option ExpressionFault
  -- the verdict on a list of printed terms for the expression that a text spells
  pub verdict : Profile → List ℕ → List (List ℕ) → Verdict
  -- the minimal sets of terms under which the expression of a text is true, printed, or why they
  -- aren't listed
  pub alternatives : Profile → List ℕ → Result (List (List (List ℕ))) ListFault
  -- the distinct terms of the expression of a text, printed, in order
  pub terms : Profile → List ℕ → List (List ℕ)
  -- the cheapest set of terms under which the expression of a text is true, given what printed
  -- terms cost, if there is one
  pub cheapest : Profile → List ℕ → (List ℕ → Option ℕ) → Result (Option Cheapest) ListFault
  -- the findings of the document that bytes spell
  pub findings : Profile → List ℕ → List Finding
