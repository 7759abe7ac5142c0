pub mod Kinds
pub mod Fields
pub mod Findings
pub mod Placed
pub mod Known
pub mod Told
pub mod Ids
pub mod Cut
