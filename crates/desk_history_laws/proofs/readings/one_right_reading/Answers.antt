use Rattle.desk_history_laws.proofs.Rights.{same_terms_told, same_reference, same_catalogue}
use Rattle.desk_history_laws.proofs.Rights.{same_document, same_licence, same_adopted}
use Rattle.desk_history_laws.proofs.Rights.{same_licence_id, same_exception, same_licence_text}
use Rattle.desk_history_laws.proofs.Rights.{same_fault, same_expression, same_verdict}
use Rattle.desk_history_laws.proofs.Rights.{same_alternatives, same_listed_terms, same_cheapest}
use Rattle.desk_history_laws.proofs.Rights.{same_findings}
use Rattle.desk_history_laws.proofs.readings.one_right_reading.Goals as goal

pub returns-clause-terms : goal.returns-clause-terms
returns-clause-terms c = same_terms_told

pub returns-clause-references : goal.returns-clause-references
returns-clause-references c = same_reference

pub returns-clause-catalogues : goal.returns-clause-catalogues
returns-clause-catalogues c = same_catalogue

pub returns-clause-documents : goal.returns-clause-documents
returns-clause-documents c = same_document

pub returns-clause-expressions : goal.returns-clause-expressions
returns-clause-expressions c = same_expression

pub returns-clause-verdicts : goal.returns-clause-verdicts
returns-clause-verdicts c = same_verdict

pub returns-clause-licences : goal.returns-clause-licences
returns-clause-licences c = same_licence

pub returns-clause-adopted : goal.returns-clause-adopted
returns-clause-adopted c = same_adopted

pub returns-clause-licence_ids : goal.returns-clause-licence_ids
returns-clause-licence_ids c = same_licence_id

pub returns-clause-exceptions : goal.returns-clause-exceptions
returns-clause-exceptions c = same_exception

pub returns-clause-licence_texts : goal.returns-clause-licence_texts
returns-clause-licence_texts c = same_licence_text

pub returns-clause-faults : goal.returns-clause-faults
returns-clause-faults c = same_fault

pub returns-clause-findings : goal.returns-clause-findings
returns-clause-findings c = same_findings

pub returns-clause-alternatives : goal.returns-clause-alternatives
returns-clause-alternatives c = same_alternatives

pub returns-clause-listed_terms : goal.returns-clause-listed_terms
returns-clause-listed_terms c = same_listed_terms

pub returns-clause-cheapest : goal.returns-clause-cheapest
returns-clause-cheapest c = same_cheapest
