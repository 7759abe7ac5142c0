pub mod Concluding
pub mod Choosing
pub mod Dropping
pub mod Opening
