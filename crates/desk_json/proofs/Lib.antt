pub mod RowTexts
pub mod Texts
pub mod FormLemmas
pub mod ListLemmas
pub mod Sparing
