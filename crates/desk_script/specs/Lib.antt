pub mod Lines
pub mod Replies
pub mod Texts
pub mod Gathered
pub mod Faults
pub mod Losses
pub mod Script
pub mod Stops
