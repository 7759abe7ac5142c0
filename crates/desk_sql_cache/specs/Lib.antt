pub mod References
pub mod Holding
pub mod Repeated
pub mod Last
pub mod Found
