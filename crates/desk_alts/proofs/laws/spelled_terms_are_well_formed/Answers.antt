use Rattle.desk_alts.proofs.Formed.{well_formed}
use Rattle.desk_alts.proofs.laws.spelled_terms_are_well_formed.Goals as goal

pub returns : goal.returns
returns c = well_formed
