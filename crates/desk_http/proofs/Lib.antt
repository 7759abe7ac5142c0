pub mod Wants
pub mod AsLines
pub mod LineEnds
pub mod Settled
pub mod Short
pub mod FromElsewhere
pub mod Accepted
