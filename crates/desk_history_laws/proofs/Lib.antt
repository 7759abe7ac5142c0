mod Given
mod Members
mod Catalogues
mod Documents
mod Releases
mod Choices
mod Conclusions
mod Moves
mod Steps
mod Days
mod Sets
mod DutyRows
mod FrozenRows
mod FrozenChoices
mod Bills
pub mod Billed
mod Ships
mod Findings
mod Listings
mod Verdicts
mod Reading
mod Rights
mod ReadRules
mod Once
mod Ordered
pub mod ChoiceSets
mod Forms
mod Ids
pub mod Lists
pub mod Parts
pub mod Recorded
pub mod Numbered
pub mod Loads
pub mod Imports
pub mod Duties
pub mod Later
mod Runs
mod Changes
mod Words
mod Rules
mod Owed
mod Orders
mod Concluded
pub mod Distinct
mod Keyed
mod Bounds
mod Bounded
mod HeldRows
mod Kept
mod ChoiceRows
mod Printed
mod Spelled
mod ReadingRights
mod Missing
