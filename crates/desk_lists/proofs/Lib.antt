mod Counting
mod Totals
pub mod Lists
