-- The numbers of the faults of texts: of licence expressions, documents and catalogues.
use Rattle.std.specs.Prelude.{ℕ}
use Rattle.desk_model.specs.declared.refusal.CatalogueFault.{CatalogueFault}
use Rattle.desk_model.specs.declared.refusal.CatalogueFault.TheVariants as catalogue
use Rattle.desk_model.specs.declared.refusal.DocumentFault.{DocumentFault}
use Rattle.desk_model.specs.declared.refusal.DocumentFault.TheVariants as document
use Rattle.desk_model.specs.declared.refusal.ExpressionFault.{ExpressionFault}
use Rattle.desk_model.specs.declared.refusal.ExpressionFault.TheVariants as expression

-- of a licence expression, as the refusal BadExpression gives them
abbrev pub expression_fault_number : ExpressionFault → ℕ
expression_fault_number (expression.Empty place) = 1
expression_fault_number (expression.BadToken place) = 2
expression_fault_number (expression.Unexpected place) = 3
expression_fault_number (expression.Unclosed place) = 4
expression_fault_number (expression.TooDeep place) = 5
expression_fault_number (expression.TooLong place) = 6
expression_fault_number (expression.TooManyTerms place) = 7

-- of a document, as the refusal BadDocument gives them
abbrev pub document_fault_number : DocumentFault → ℕ
document_fault_number document.NotUtf8 = 1
document_fault_number (document.NoColon line) = 2
document_fault_number (document.OpenText line) = 3
document_fault_number (document.AfterText line) = 4
document_fault_number (document.BadVersion line) = 5
document_fault_number (document.Missing line tag) = 6
document_fault_number (document.BadId line) = 7
document_fault_number (document.DuplicateId line) = 8
document_fault_number (document.Repeated line tag) = 9
document_fault_number (document.BadRelationship line) = 10
document_fault_number document.TooLarge = 11
document_fault_number (document.TooManyElements line) = 12

-- of a catalogue, as the refusal BadCatalogue gives them
abbrev pub catalogue_fault_number : CatalogueFault → ℕ
catalogue_fault_number catalogue.NotToml = 1
catalogue_fault_number (catalogue.Missing part index) = 2
catalogue_fault_number (catalogue.BadKind part index) = 3
catalogue_fault_number (catalogue.BadTerm part index) = 4
catalogue_fault_number (catalogue.UnknownForm part index) = 5
catalogue_fault_number (catalogue.UnknownDuty part index) = 6
catalogue_fault_number (catalogue.Twice part index) = 7
catalogue_fault_number catalogue.TooLarge = 8
