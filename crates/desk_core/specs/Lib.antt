pub mod Carrying
pub mod Desks
