use Rattle.desk_alts.proofs.CheapestExists.{one_cheapest}
use Rattle.desk_alts.proofs.laws.minimal_sets.one_cheapest.Goals as goal

pub returns : goal.returns
returns c = one_cheapest
