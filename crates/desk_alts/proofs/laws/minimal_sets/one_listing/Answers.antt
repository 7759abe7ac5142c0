use Rattle.desk_alts.proofs.ListingExists.{alternatives_exist, one_listing}
use Rattle.desk_alts.proofs.laws.minimal_sets.one_listing.Goals as goal

pub returns : goal.returns
returns c = record { some = alternatives_exist; one = one_listing }
