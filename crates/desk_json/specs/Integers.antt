-- All numbers of rows are integers.
use Rattle.std.proofs.Common.{◌≡◌, ℕ, List, [], ◌∷◌, ◌++◌, Option, Some, None, false, refl}
use Rattle.std.specs.Prelude.{map}
use Rattle.serde_json.specs.Data.{string}
use Rattle.serde_json.specs.View.{items_of}
use Rattle.serde_json.specs.Written.{has_float, items_have_float}
use Rattle.desk_json.specs.Parts.{change_values, ending, change_line, package_values, term_list, cheapest_row}
use Rattle.desk_model.specs.declared.row.ChangeRow.{ChangeRow}
use Rattle.desk_model.specs.declared.command.PackageLine.{PackageLine}
use Rattle.desk_json.specs.Refusals.{document_fault_values, catalogue_fault_values, refusal_values}
use Rattle.desk_json.specs.Replies.{refusal_reply}
use Rattle.desk_model.specs.declared.reading.Cheapest.{Cheapest}
use Rattle.desk_model.specs.declared.refusal.CatalogueFault.{CatalogueFault}
use Rattle.desk_model.specs.declared.refusal.CatalogueFault.TheVariants as catalogue
use Rattle.desk_model.specs.declared.refusal.DocumentFault.{DocumentFault}
use Rattle.desk_model.specs.declared.refusal.DocumentFault.TheVariants as document
use Rattle.desk_model.specs.declared.refusal.Refusal.{Refusal}
use Rattle.desk_model.specs.declared.refusal.Refusal.TheVariants as why

-- the values of a change, with or without the last day of a waiver
change_and_end : (row : ChangeRow) (last : Option (List ℕ))
    → items_have_float (items_of (change_values row ++ ending last)) ≡ false
change_and_end row None = refl
change_and_end row (Some day) = refl

-- the line of a change
pub change_has_integers : (row : ChangeRow) → has_float (change_line row) ≡ false
change_has_integers row = change_and_end row row.last_day

-- a list of terms has no numbers at all
pub terms_have_integers : (terms : List (List ℕ)) → has_float (term_list terms) ≡ false
terms_have_integers [] = refl
terms_have_integers (term ∷ terms) = terms_have_integers terms

-- the line of a package: its document is its only number
pub package_has_integers : (line : PackageLine) → has_float (package_values line) ≡ false
package_has_integers line = rw (terms_have_integers line.terms) refl

-- a cheapest set: its cost is its only number
pub cheapest_has_integers : (c : Cheapest) → has_float (cheapest_row c) ≡ false
cheapest_has_integers c = rw (terms_have_integers c.terms) refl

-- Refusals

-- the part and the index of a fault
catalogue_fault_has_integers : (fault : CatalogueFault)
    → items_have_float (items_of (catalogue_fault_values fault)) ≡ false
catalogue_fault_has_integers catalogue.NotToml = refl
catalogue_fault_has_integers (catalogue.Missing part index) = refl
catalogue_fault_has_integers (catalogue.BadKind part index) = refl
catalogue_fault_has_integers (catalogue.BadTerm part index) = refl
catalogue_fault_has_integers (catalogue.UnknownForm part index) = refl
catalogue_fault_has_integers (catalogue.UnknownDuty part index) = refl
catalogue_fault_has_integers (catalogue.Twice part index) = refl
catalogue_fault_has_integers catalogue.TooLarge = refl

-- the line and the tag of a fault
document_fault_has_integers : (fault : DocumentFault)
    → items_have_float (items_of (document_fault_values fault)) ≡ false
document_fault_has_integers document.NotUtf8 = refl
document_fault_has_integers (document.NoColon line) = refl
document_fault_has_integers (document.OpenText line) = refl
document_fault_has_integers (document.AfterText line) = refl
document_fault_has_integers (document.BadVersion line) = refl
document_fault_has_integers (document.Missing line tag) = refl
document_fault_has_integers (document.BadId line) = refl
document_fault_has_integers (document.DuplicateId line) = refl
document_fault_has_integers (document.Repeated line tag) = refl
document_fault_has_integers (document.BadRelationship line) = refl
document_fault_has_integers document.TooLarge = refl
document_fault_has_integers (document.TooManyElements line) = refl

-- the values of each refusal
values_have_integers : (refusal : Refusal)
    → items_have_float (items_of (refusal_values refusal)) ≡ false
values_have_integers (why.BadCatalogue fault) = catalogue_fault_has_integers fault
values_have_integers (why.BadDocument fault) = document_fault_has_integers fault
values_have_integers (why.NamespaceTaken document) = refl
values_have_integers why.UnknownDocument = refl
values_have_integers why.UnknownPackage = refl
values_have_integers (why.BadExpression fault) = refl
values_have_integers (why.Chosen release) = refl
values_have_integers (why.BadTerm index) = refl
values_have_integers why.BadName = refl
values_have_integers why.NameTaken = refl
values_have_integers why.UnknownForm = refl
values_have_integers why.UnknownRelease = refl
values_have_integers (why.ReleaseState state) = refl
values_have_integers why.AlreadyAttached = refl
values_have_integers why.NotShipped = refl
values_have_integers (why.NoConclusion document package_id) = refl
values_have_integers why.NotEnough = refl
values_have_integers (why.NotMinimal term) = refl
values_have_integers (why.NoChoice document package_id) = refl
values_have_integers why.EmptyRelease = refl
values_have_integers (why.NotAdopted document reference) = refl
values_have_integers (why.NoRule document package_id term) = refl
values_have_integers why.UnknownDuty = refl
values_have_integers (why.DutyState state) = refl
values_have_integers why.BadText = refl
values_have_integers why.BadDay = refl
values_have_integers (why.Full limit) = refl
values_have_integers why.TooMany = refl
values_have_integers why.TooManyTerms = refl
values_have_integers why.BadEnd = refl

-- the whole reply, with the refusal's number
pub refusal_has_integers : (refusal : Refusal) → has_float (refusal_reply refusal) ≡ false
refusal_has_integers refusal = rw (values_have_integers refusal) refl
