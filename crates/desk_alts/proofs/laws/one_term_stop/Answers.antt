use Rattle.desk_alts.proofs.TermStops.{one_term_stop}
use Rattle.desk_alts.proofs.laws.one_term_stop.Goals as goal

pub returns : goal.returns
returns c = one_term_stop
