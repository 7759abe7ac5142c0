use Rattle.desk_history.proofs.Chosen.{standing-choice}
use Rattle.desk_history.proofs.last_choice_stands.Goals as goal

pub returns : goal.returns
returns c = standing-choice
