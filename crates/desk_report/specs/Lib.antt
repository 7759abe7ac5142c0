pub mod Columns
pub mod CsvTable
pub mod Lines
pub mod Notices
pub mod Terminal
