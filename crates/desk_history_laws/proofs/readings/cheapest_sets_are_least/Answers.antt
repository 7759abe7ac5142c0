use Rattle.desk_history_laws.proofs.Rights.{is_least}
use Rattle.desk_history_laws.proofs.readings.cheapest_sets_are_least.Goals as goal

pub returns : goal.returns
returns c = is_least
