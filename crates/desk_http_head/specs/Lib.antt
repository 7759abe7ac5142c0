pub mod Limits
pub mod Statuses
pub mod Fields
pub mod Heads
pub mod Framings
pub mod Origins
