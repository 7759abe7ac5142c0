pub mod LookUps
pub mod Rules
pub mod Standings
pub mod Steps
pub mod Waivers
