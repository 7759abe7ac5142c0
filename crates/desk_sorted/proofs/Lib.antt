pub mod Ascending
pub mod Sorting
pub mod Halving
pub mod Placing
mod PutAll
mod Blocking
mod Searching
mod Changing
pub mod Walking
mod Counting
mod Beside
mod Nearby
