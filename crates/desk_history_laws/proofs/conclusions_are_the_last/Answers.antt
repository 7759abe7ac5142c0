use Rattle.desk_history_laws.proofs.Conclusions.{in_conclusions, from_conclusions}
use Rattle.desk_history_laws.proofs.conclusions_are_the_last.Goals as goal

pub returns : goal.returns
returns c = record { held = in_conclusions; only = from_conclusions }
