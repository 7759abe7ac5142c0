mod Secured
mod Writing
mod Orderly
mod Opened
mod StandOnce
mod Small
pub mod Matching
pub mod Stating
pub mod Readers
mod Desks
