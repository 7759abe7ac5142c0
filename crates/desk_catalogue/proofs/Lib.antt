pub mod TermsRead
pub mod EntryLemmas
pub mod KeptLemmas
pub mod SetLemmas
pub mod ReadingLemmas
pub mod PrintedLemmas
pub mod OrderLaws
pub mod Sought
mod StandOnce
mod LeastFaults
mod Counted
mod Places
mod EachFirst
mod PartsFirst
mod FormsFirst
mod AllFirst
