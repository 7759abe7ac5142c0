pub mod Obstacles
pub mod Idle
pub mod Against
pub mod Sole
pub mod Requests
pub mod Premises
