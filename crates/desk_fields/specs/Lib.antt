pub mod Tags
pub mod FaultParts
pub mod Text
pub mod Pieces
pub mod Cutting
pub mod Found
pub mod NextField
