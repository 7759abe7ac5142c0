use Rattle.desk_history_laws.proofs.Loads.{are_rules}
use Rattle.desk_history_laws.proofs.snapshots.rules_are_those_of_their_catalogues.Goals as goal

pub returns : goal.returns
returns c = are_rules
