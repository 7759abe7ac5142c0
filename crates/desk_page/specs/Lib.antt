pub mod Escapes
pub mod Fixed
pub mod Page
pub mod Pieces
pub mod Cells
pub mod Rows
