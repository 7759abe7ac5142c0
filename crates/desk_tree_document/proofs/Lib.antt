pub mod FileLemmas
pub mod ToldLemmas
mod Digests
mod Spelled
mod Shipping
mod Contents
mod States
pub mod Ships
pub mod Trees
pub mod Joining
