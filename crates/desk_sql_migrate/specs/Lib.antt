pub mod Steps
pub mod Migrating
