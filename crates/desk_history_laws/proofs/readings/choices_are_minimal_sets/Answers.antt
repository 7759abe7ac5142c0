use Rattle.desk_history_laws.proofs.Rights.{minimal_choice}
use Rattle.desk_history_laws.proofs.readings.choices_are_minimal_sets.Goals as goal

pub returns : goal.returns
returns c = minimal_choice
