use Rattle.desk_history_laws.proofs.Steps.{few_changes}
use Rattle.desk_history_laws.proofs.changes_are_few.Goals as goal

pub returns : goal.returns
returns c = few_changes
