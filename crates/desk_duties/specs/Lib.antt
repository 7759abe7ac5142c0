pub mod Moving
pub mod Freezing
