use Rattle.desk_fill.proofs.FillLemmas.{bill_twice}
use Rattle.desk_fill.proofs.laws.filling_twice_is_filling_once.Goals as goal

pub returns : goal.returns
returns c = bill_twice
