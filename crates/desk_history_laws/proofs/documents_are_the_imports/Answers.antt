use Rattle.desk_history_laws.proofs.Documents.{documents-imports, packages-documents, references-documents}
use Rattle.desk_history_laws.proofs.documents_are_the_imports.Goals as goal

pub returns : goal.returns
returns c = record {
  documents = documents-imports;
  packages = packages-documents;
  references = references-documents;
}
