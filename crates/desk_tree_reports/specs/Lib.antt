pub mod Lines
pub mod Items
pub mod Ways
pub mod Pieces
pub mod LongTexts
pub mod Reports
pub mod Telling
