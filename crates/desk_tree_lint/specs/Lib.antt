pub mod Texts
pub mod Used
pub mod Naming
pub mod Names
pub mod Firsts
pub mod Lists
pub mod Shown
