use Rattle.desk_alts.proofs.Listings.{listing_exists, listable_has_no_fault}
use Rattle.desk_alts.proofs.laws.minimal_sets.listing_exists.Goals as goal

pub returns : goal.returns
returns c = record { some = listing_exists; no_fault = listable_has_no_fault }
