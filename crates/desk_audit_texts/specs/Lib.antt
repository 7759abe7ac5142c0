pub mod Left
pub mod Listed
pub mod InForce
pub mod HeldAs
