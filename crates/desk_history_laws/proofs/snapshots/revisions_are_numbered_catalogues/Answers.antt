use Rattle.desk_history_laws.proofs.Loads.{are_revisions}
use Rattle.desk_history_laws.proofs.snapshots.revisions_are_numbered_catalogues.Goals as goal

pub returns : goal.returns
returns c = are_revisions
