pub mod Forms
pub mod Owned
pub mod Reading
pub mod Version
pub mod Older
pub mod Columns
