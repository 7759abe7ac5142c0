use Rattle.desk_history_laws.proofs.Billed.{bill_lists}
use Rattle.desk_history_laws.proofs.bills_list_what_was_chosen.Goals as goal

pub returns : goal.returns
returns c = bill_lists
