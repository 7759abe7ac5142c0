use Rattle.desk_alts.proofs.CostLemmas.{smaller_first}
use Rattle.desk_alts.proofs.SetOrders.{terms_decide_last}
use Rattle.desk_alts.proofs.laws.minimal_sets.sets_sort_by_size_first.Goals as goal

pub returns : goal.returns
returns c = record { size = smaller_first; terms = terms_decide_last }
