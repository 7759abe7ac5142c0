mod Days
mod Ledgering
mod Pushing
mod Ending
mod Turns
mod Lists
pub mod FirstHolder
pub mod Holding
