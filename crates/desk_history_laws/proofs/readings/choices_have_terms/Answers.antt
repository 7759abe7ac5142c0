use Rattle.desk_history_laws.proofs.Rights.{some_chosen}
use Rattle.desk_history_laws.proofs.readings.choices_have_terms.Goals as goal

pub returns : goal.returns
returns c = some_chosen
