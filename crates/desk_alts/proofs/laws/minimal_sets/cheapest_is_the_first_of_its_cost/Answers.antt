use Rattle.desk_alts.proofs.SetOrders.{first_of_cost}
use Rattle.desk_alts.proofs.laws.minimal_sets.cheapest_is_the_first_of_its_cost.Goals as goal

pub returns : goal.returns
returns c = first_of_cost
