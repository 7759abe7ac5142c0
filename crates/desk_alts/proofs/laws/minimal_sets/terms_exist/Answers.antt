use Rattle.desk_alts.proofs.ListingExists.{terms_exist}
use Rattle.desk_alts.proofs.laws.minimal_sets.terms_exist.Goals as goal

pub returns : goal.returns
returns c = terms_exist
