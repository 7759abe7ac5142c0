use Rattle.desk_history_laws.proofs.Ordered.{lists_in_order}
use Rattle.desk_history_laws.proofs.readings.right_readings_list_in_order.Goals as goal

pub returns : goal.returns
returns c = lists_in_order
