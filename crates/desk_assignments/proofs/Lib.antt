pub mod Shallow
pub mod Told
