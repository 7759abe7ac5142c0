pub mod Asked
pub mod Cells
pub mod Orders
pub mod Scans
pub mod Parts
pub mod Causes
pub mod Scanning
