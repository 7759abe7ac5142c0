mod Stored
pub mod Natural
mod Waivers
mod Named
pub mod Taken
mod Steps
mod Whole
