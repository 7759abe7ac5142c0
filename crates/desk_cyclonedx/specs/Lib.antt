pub mod Names
pub mod Licences
pub mod Placed
pub mod Components
pub mod Boms
