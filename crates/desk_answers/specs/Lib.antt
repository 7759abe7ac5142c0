pub mod Sets
pub mod Rows
pub mod Refusals
pub mod Answers
pub mod Gaps
