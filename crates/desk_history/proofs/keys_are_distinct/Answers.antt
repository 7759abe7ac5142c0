use Rattle.desk_history.proofs.OwnKeys.{distinct-duties}
use Rattle.desk_history.proofs.keys_are_distinct.Goals as goal

pub returns : goal.returns
returns c = distinct-duties
