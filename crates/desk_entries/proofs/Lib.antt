pub mod WrittenLemmas
pub mod EntryLemmas
