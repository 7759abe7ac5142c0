-- The values of a refusal, in order; for a fault its number, and then its own values.
use Rattle.std.specs.Prelude.{ℕ, List, [], ◌∷◌}
use Rattle.serde_json.specs.Data.{Data, string}
use Rattle.desk_json.specs.Parts.{whole}
use Rattle.desk_model.specs.FaultNumbers.{expression_fault_number, document_fault_number, catalogue_fault_number}
use Rattle.desk_model.specs.Names.{release_state_name, duty_state_name, limit_name, part_name}
use Rattle.desk_model.specs.declared.refusal.CatalogueFault.{CatalogueFault}
use Rattle.desk_model.specs.declared.refusal.CatalogueFault.TheVariants as catalogue
use Rattle.desk_model.specs.declared.refusal.DocumentFault.{DocumentFault}
use Rattle.desk_model.specs.declared.refusal.DocumentFault.TheVariants as document
use Rattle.desk_model.specs.declared.refusal.ExpressionFault.{ExpressionFault}
use Rattle.desk_model.specs.declared.refusal.ExpressionFault.TheVariants as expression
use Rattle.desk_model.specs.declared.refusal.Refusal.{Refusal}
use Rattle.desk_model.specs.declared.refusal.Refusal.TheVariants as why

-- the byte at which the text stops
abbrev pub expression_fault_place : ExpressionFault → ℕ
expression_fault_place (expression.Empty place) = place
expression_fault_place (expression.BadToken place) = place
expression_fault_place (expression.Unexpected place) = place
expression_fault_place (expression.Unclosed place) = place
expression_fault_place (expression.TooDeep place) = place
expression_fault_place (expression.TooLong place) = place
expression_fault_place (expression.TooManyTerms place) = place

-- the line, or 0 if the fault has none, and the tag of the field that is missing or repeated
abbrev pub document_fault_values : DocumentFault → List Data
document_fault_values document.NotUtf8 = whole 0 ∷ []
document_fault_values (document.NoColon line) = whole line ∷ []
document_fault_values (document.OpenText line) = whole line ∷ []
document_fault_values (document.AfterText line) = whole line ∷ []
document_fault_values (document.BadVersion line) = whole line ∷ []
document_fault_values (document.Missing line tag) = whole line ∷ string tag ∷ []
document_fault_values (document.BadId line) = whole line ∷ []
document_fault_values (document.DuplicateId line) = whole line ∷ []
document_fault_values (document.Repeated line tag) = whole line ∷ string tag ∷ []
document_fault_values (document.BadRelationship line) = whole line ∷ []
document_fault_values document.TooLarge = whole 0 ∷ []
document_fault_values (document.TooManyElements line) = whole line ∷ []

-- the part and the place in it; no values if the text as a whole isn't a catalogue
abbrev pub catalogue_fault_values : CatalogueFault → List Data
catalogue_fault_values catalogue.NotToml = []
catalogue_fault_values (catalogue.Missing part index) = string (part_name part) ∷ whole index ∷ []
catalogue_fault_values (catalogue.BadKind part index) = string (part_name part) ∷ whole index ∷ []
catalogue_fault_values (catalogue.BadTerm part index) = string (part_name part) ∷ whole index ∷ []
catalogue_fault_values (catalogue.UnknownForm part index) = string (part_name part) ∷ whole index
    ∷ []
catalogue_fault_values (catalogue.UnknownDuty part index) = string (part_name part) ∷ whole index
    ∷ []
catalogue_fault_values (catalogue.Twice part index) = string (part_name part) ∷ whole index ∷ []
catalogue_fault_values catalogue.TooLarge = []

-- what the member `at` of a refusal lists; many refusals have no values
abbrev pub refusal_values : Refusal → List Data
refusal_values (why.BadCatalogue fault) = whole (catalogue_fault_number fault)
    ∷ catalogue_fault_values fault
refusal_values (why.BadDocument fault) = whole (document_fault_number fault)
    ∷ document_fault_values fault
refusal_values (why.NamespaceTaken document) = whole document ∷ []
refusal_values why.UnknownDocument = []
refusal_values why.UnknownPackage = []
refusal_values (why.BadExpression fault) = whole (expression_fault_number fault)
    ∷ whole (expression_fault_place fault) ∷ []
refusal_values (why.Chosen release) = string release ∷ []
refusal_values (why.BadTerm index) = whole index ∷ []
refusal_values why.BadName = []
refusal_values why.NameTaken = []
refusal_values why.UnknownForm = []
refusal_values why.UnknownRelease = []
refusal_values (why.ReleaseState state) = string (release_state_name state) ∷ []
refusal_values why.AlreadyAttached = []
refusal_values why.NotShipped = []
refusal_values (why.NoConclusion document package_id) = whole document ∷ string package_id ∷ []
refusal_values why.NotEnough = []
refusal_values (why.NotMinimal term) = string term ∷ []
refusal_values (why.NoChoice document package_id) = whole document ∷ string package_id ∷ []
refusal_values why.EmptyRelease = []
refusal_values (why.NotAdopted document reference) = whole document ∷ string reference ∷ []
refusal_values (why.NoRule document package_id term) = whole document ∷ string package_id
    ∷ string term ∷ []
refusal_values why.UnknownDuty = []
refusal_values (why.DutyState state) = string (duty_state_name state) ∷ []
refusal_values why.BadText = []
refusal_values why.BadDay = []
refusal_values (why.Full limit) = string (limit_name limit) ∷ []
refusal_values why.TooMany = []
refusal_values why.TooManyTerms = []
refusal_values why.BadEnd = []
