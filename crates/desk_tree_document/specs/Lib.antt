pub mod Texts
pub mod Drafts
pub mod Told
pub mod Shown
pub mod Shipping
pub mod Gaps
pub mod Gathering
