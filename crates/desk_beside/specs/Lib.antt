pub mod Beside
pub mod Shown
