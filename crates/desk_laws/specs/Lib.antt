pub mod Opened
pub mod Schemas
pub mod Storable
