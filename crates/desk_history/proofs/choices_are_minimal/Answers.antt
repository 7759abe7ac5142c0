use Rattle.desk_history.proofs.Minimal.{each_is_minimal}
use Rattle.desk_history.proofs.choices_are_minimal.Goals as goal

pub returns : goal.returns
returns c = each_is_minimal
