mod Terms
mod Costs
pub mod Orders
pub mod Halving
mod Verdicts
mod ChoiceLemmas
mod ByIds
mod Taking
