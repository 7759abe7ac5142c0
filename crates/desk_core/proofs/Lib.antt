mod Following
pub mod Chains
mod AtHistory
pub mod Leaving
