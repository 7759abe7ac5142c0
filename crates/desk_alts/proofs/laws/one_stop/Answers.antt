use Rattle.desk_alts.proofs.TreeStops.{one_stop}
use Rattle.desk_alts.proofs.laws.one_stop.Goals as goal

pub returns : goal.returns
returns c = one_stop
