use Rattle.desk_alts.proofs.ListingExists.{one_list_of_terms}
use Rattle.desk_alts.proofs.laws.minimal_sets.one_list_of_terms.Goals as goal

pub returns : goal.returns
returns c = one_list_of_terms
