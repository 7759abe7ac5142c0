pub mod Turning
pub mod Written
pub mod Declaring
pub mod Creating
pub mod Taking
pub mod Runs
pub mod Replacing
