use Rattle.desk_history_laws.proofs.Imports.{are_documents}
use Rattle.desk_history_laws.proofs.snapshots.documents_are_numbered_and_read.Goals as goal

pub returns : goal.returns
returns c = are_documents
