pub mod UsedLemmas
pub mod ListLemmas
pub mod NameLemmas
pub mod OrderLemmas
pub mod StemLemmas
pub mod FirstLemmas
mod RunLemmas
