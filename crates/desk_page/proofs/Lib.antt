pub mod Inert
pub mod Uses
pub mod ReadBack
