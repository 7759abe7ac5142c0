pub mod Sifting
pub mod Written
pub mod Answers
