pub mod InspectLemmas
pub mod ListingLemmas
pub mod ProposingLemmas
