use Rattle.desk_history.proofs.Told.{told}
use Rattle.desk_history.proofs.each_place_is_told.Goals as goal

pub returns : goal.returns
returns c = told
