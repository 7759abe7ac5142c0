use Rattle.desk_history_laws.proofs.Duties.{are_states}
use Rattle.desk_history_laws.proofs.snapshots.duties_stand_as_their_releases.Goals as goal

pub returns : goal.returns
returns c = are_states
