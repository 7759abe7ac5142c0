pub mod Bare
pub mod Problems
pub mod Rows
