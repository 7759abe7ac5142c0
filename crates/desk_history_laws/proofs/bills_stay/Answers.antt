use Rattle.desk_history_laws.proofs.Bills.{bill_stands}
use Rattle.desk_history_laws.proofs.bills_stay.Goals as goal

pub returns : goal.returns
returns c = bill_stands
