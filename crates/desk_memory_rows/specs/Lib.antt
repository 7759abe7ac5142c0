pub mod Ledgers
pub mod Books
pub mod Sides
pub mod Splitting
pub mod Holders
pub mod HolderLaws
