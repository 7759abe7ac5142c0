pub mod ReadingLemmas
pub mod FindingLemmas
pub mod FirstPiece
pub mod EachText
pub mod EachDocument
pub mod EachCutting
pub mod Ordered
mod Codes
pub mod States
pub mod Ships
pub mod Sections
