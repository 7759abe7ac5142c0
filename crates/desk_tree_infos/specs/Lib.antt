pub mod Readers
pub mod Tomls
pub mod Information
pub mod Ways
pub mod Sharing
pub mod Folders
pub mod Firsts
pub mod Counting
