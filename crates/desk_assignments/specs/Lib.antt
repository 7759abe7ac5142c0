pub mod Values
pub mod Words
pub mod Requests
pub mod Sources
