pub mod StepLemmas
pub mod ResultLemmas
mod Standings
mod WalkLemmas
mod WrittenFields
mod DistinctLemmas
mod IntakeLemmas
mod Lines
mod WordLemmas
mod Plain
mod Blocks
mod SaidLines
mod SaidSteps
mod Reread
mod InputLemmas
mod Cuts
