pub mod Rows
pub mod Orders
mod Same
pub mod Lookups
pub mod Chosen
mod Obstacles
pub mod Concluding
pub mod Recorded
mod Opening
pub mod Holding
pub mod Moving
mod Withdrawing
pub mod Ready
pub mod Freezing
pub mod Steps
pub mod Queries
pub mod Running
pub mod Members
mod Freezes
mod RaisedLaw
mod Counting
pub mod Minimal
pub mod Told
pub mod Distinct
pub mod OwnKeys
mod Held
mod Numbers
pub mod Sorting
mod Ends
pub mod Rising
pub mod Listed
mod Raising
mod Alone
mod Full
mod Lines
mod ReadyLaws
