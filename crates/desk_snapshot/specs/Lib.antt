pub mod Orders
pub mod Rows
pub mod Sides
pub mod Changes
pub mod Conditions
pub mod Reports
pub mod Tables
