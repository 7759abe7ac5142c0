pub mod Counting
pub mod Held
pub mod Idle
pub mod Inspecting
pub mod Listing
pub mod Proposing
