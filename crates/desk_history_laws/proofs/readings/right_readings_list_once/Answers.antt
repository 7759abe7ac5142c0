use Rattle.desk_history_laws.proofs.Once.{lists_once}
use Rattle.desk_history_laws.proofs.readings.right_readings_list_once.Goals as goal

pub returns : goal.returns
returns c = lists_once
