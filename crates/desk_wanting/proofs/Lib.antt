mod Firsts
pub mod Lists
pub mod SoFar
mod Against
mod Once
mod Floats
mod Looks
mod Accepted
mod Recorded
