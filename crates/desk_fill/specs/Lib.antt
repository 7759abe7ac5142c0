pub mod Filling
pub mod Values
pub mod Reading
pub mod Shown
pub mod Showing
pub mod Subjects
