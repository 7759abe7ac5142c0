use Rattle.desk_history_laws.proofs.Rights.{lists_all}
use Rattle.desk_history_laws.proofs.readings.listings_are_all_minimal_sets.Goals as goal

pub returns : goal.returns
returns c = lists_all
