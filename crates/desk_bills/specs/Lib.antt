pub mod Billing
pub mod Sides
pub mod Lacking
