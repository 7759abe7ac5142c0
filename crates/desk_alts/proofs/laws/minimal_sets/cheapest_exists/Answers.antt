use Rattle.desk_alts.proofs.CheapestExists.{cheapest_exists, cheapest_has_costs}
use Rattle.desk_alts.proofs.laws.minimal_sets.cheapest_exists.Goals as goal

pub returns : goal.returns
returns c = record { some = cheapest_exists; not_both = cheapest_has_costs }
