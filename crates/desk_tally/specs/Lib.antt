pub mod Numbers
pub mod Totals
pub mod Stands
pub mod Kept
