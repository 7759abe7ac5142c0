use Rattle.desk_cyclonedx.proofs.Apart.{ids_apart}
use Rattle.desk_cyclonedx.proofs.laws.identifiers_stay_distinct.Goals as goal

pub returns : goal.returns
returns c = ids_apart
