use Rattle.desk_history_laws.proofs.Ids.{lists_ids}
use Rattle.desk_history_laws.proofs.readings.right_readings_list_ids.Goals as goal

pub returns : goal.returns
returns c = lists_ids
