use Rattle.desk_history.proofs.Alone.{alone}
use Rattle.desk_history.proofs.answers.refused_alone_exactly.Goals as goal

pub returns : goal.returns
returns c = alone
