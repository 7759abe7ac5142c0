use Rattle.desk_history_laws.proofs.Conclusions.{in_adoptions, from_adoptions}
use Rattle.desk_history_laws.proofs.adoptions_are_the_last.Goals as goal

pub returns : goal.returns
returns c = record { held = in_adoptions; only = from_adoptions }
