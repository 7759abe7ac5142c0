pub mod Behind
pub mod Codes
pub mod Rows
pub mod Given
pub mod Judged
mod Sorted
mod Numbers
mod Found
mod Reading
mod Alike
