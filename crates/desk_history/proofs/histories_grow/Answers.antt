use Rattle.desk_history.proofs.Steps.{IsHistory-noted}
use Rattle.desk_history.proofs.histories_grow.Goals as goal

pub returns : goal.returns
returns c = IsHistory-noted
