pub mod Sorted
pub mod Sides
pub mod Orders
pub mod Blocks
