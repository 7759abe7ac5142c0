mod Cutting
pub mod Chains
mod Gathering
pub mod Losing
pub mod OneLine
pub mod Progress
pub mod Results
pub mod Applied
