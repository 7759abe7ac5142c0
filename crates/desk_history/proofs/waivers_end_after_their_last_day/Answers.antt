use Rattle.desk_history.proofs.Ends.{opens, moves_only}
use Rattle.desk_history.proofs.waivers_end_after_their_last_day.Goals as goal

pub returns : goal.returns
returns c = record { ends = opens; only = moves_only }
