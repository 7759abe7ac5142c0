use Rattle.desk_alts.proofs.TreeStops.{some_stop}
use Rattle.desk_alts.proofs.laws.some_stop.Goals as goal

pub returns : goal.returns
returns c = some_stop
