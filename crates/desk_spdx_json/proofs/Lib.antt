pub mod Added
pub mod FileLaws
pub mod Kept
pub mod Repeated
