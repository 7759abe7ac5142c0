pub mod EntryLemmas
pub mod FillLemmas
pub mod SubjectLemmas
pub mod FirstLemmas
