use Rattle.desk_history.proofs.Held.{choice_is_minimal}
use Rattle.desk_history.proofs.held_choices_are_minimal.Goals as goal

pub returns : goal.returns
returns c = choice_is_minimal
