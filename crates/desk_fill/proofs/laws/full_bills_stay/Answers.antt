use Rattle.desk_fill.proofs.FillLemmas.{bill_stays}
use Rattle.desk_fill.proofs.laws.full_bills_stay.Goals as goal

pub returns : goal.returns
returns c = bill_stays
