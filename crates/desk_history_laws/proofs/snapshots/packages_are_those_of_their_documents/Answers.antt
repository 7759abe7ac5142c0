use Rattle.desk_history_laws.proofs.Imports.{are_packages}
use Rattle.desk_history_laws.proofs.snapshots.packages_are_those_of_their_documents.Goals as goal

pub returns : goal.returns
returns c = are_packages
