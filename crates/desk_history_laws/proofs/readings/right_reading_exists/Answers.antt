use Rattle.desk_history_laws.proofs.Rights.{right_reading}
use Rattle.desk_history_laws.proofs.readings.right_reading_exists.Goals as goal

pub returns : goal.returns
returns c = right_reading
