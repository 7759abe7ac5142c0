pub mod CountLemmas
pub mod LineLemmas
pub mod RowLemmas
pub mod TellingLemmas
pub mod ShownLemmas
pub mod ItemLemmas
pub mod PieceLemmas
