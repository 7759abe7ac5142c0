pub mod Follows
pub mod Seen
pub mod Plans
pub mod Reading
