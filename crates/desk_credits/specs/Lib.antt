pub mod Patterns
pub mod Finding
pub mod Notices
pub mod Written
pub mod Answers
