use Rattle.desk_alts.proofs.Needed.{spelled_needs}
use Rattle.desk_alts.proofs.laws.some_term_is_needed.Goals as goal

pub returns : goal.returns
returns c = spelled_needs
