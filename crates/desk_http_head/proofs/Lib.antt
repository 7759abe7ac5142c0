pub mod Stability
pub mod Found
pub mod Any
pub mod Elsewhere
