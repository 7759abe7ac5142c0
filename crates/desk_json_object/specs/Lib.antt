pub mod Seen
pub mod Taken
pub mod Spared
pub mod Kept
