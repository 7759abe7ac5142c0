mod Bills
mod Uses
mod Naming
mod Bodies
mod Kept
pub mod InTurn
mod Missing
mod Alike
