use Rattle.desk_history.proofs.Ends.{met_stays, other_withdrawn, none_chosen}
use Rattle.desk_history.proofs.withdrawals_leave_met_duties.Goals as goal

pub returns : goal.returns
returns c = record { met = met_stays; others = other_withdrawn; choices = none_chosen }
