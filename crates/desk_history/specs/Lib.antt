pub mod FromTables
pub mod Laws
pub mod Alone
pub mod Full
pub mod Lines
