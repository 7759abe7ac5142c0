mod Asked
pub mod Holding
mod Telling
mod Scanning
mod Queries
mod Values
mod Rising
mod Waivers
mod CatalogueQueries
mod DocumentQueries
mod OfficeQueries
mod ReleaseQueries
mod DutyQueries
mod Joining
mod Causes
mod Chains
