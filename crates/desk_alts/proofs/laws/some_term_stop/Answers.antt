use Rattle.desk_alts.proofs.TermStops.{some_term_stop}
use Rattle.desk_alts.proofs.laws.some_term_stop.Goals as goal

pub returns : goal.returns
returns c = some_term_stop
