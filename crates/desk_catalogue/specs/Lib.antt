pub mod Values
pub mod Terms
pub mod Kept
pub mod Reading
pub mod Lookup
pub mod Shown
pub mod Faults
pub mod AllFaults
