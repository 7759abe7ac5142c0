pub mod Added
pub mod IdleIds
