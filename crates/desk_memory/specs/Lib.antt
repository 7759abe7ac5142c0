pub mod Sides
pub mod Namespaces
pub mod Splitting
pub mod NamespaceLaws
pub mod RulePlaces
pub mod RuleLaws
pub mod Memory
