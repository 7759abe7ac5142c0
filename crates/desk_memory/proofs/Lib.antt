mod Founds
mod Naming
mod Ruling
mod Committing
mod Terms
mod Releases
