use Rattle.desk_history_laws.proofs.Duties.{are_numbered}
use Rattle.desk_history_laws.proofs.snapshots.duties_are_numbered_and_few.Goals as goal

pub returns : goal.returns
returns c = are_numbered
