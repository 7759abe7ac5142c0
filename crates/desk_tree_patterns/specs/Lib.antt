pub mod Glob
pub mod Parts
pub mod Rows
pub mod Steps
