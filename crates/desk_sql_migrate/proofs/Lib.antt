mod TwoTables
mod Copying
mod Declaring
mod Growing
mod Gained
mod Rows
mod Whole
pub mod Ends
mod Preparing
mod Ending
mod Transacting
pub mod Kept
mod Examined
