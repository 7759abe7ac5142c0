use Rattle.desk_history_laws.proofs.Changes.{are_changes}
use Rattle.desk_history_laws.proofs.snapshots.duty_rows.changes_are_the_moves_of_duties.Goals as goal

pub returns : goal.returns
returns c = are_changes
