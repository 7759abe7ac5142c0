pub mod Troubles
pub mod Paths
pub mod Logs
pub mod Differences
pub mod Documents
