pub mod Inside
mod Extending
mod Behind
mod Inserts
mod Deletes
mod Updates
mod RunLemmas
pub mod Lists
mod Applied
pub mod Declared
pub mod Declarations
mod Empty
mod Storable
mod Keyed
mod Rooms
mod Puts
mod Refusing
mod Failing
mod Inserting
mod Going
mod Deleting
mod Updating
mod Stands
mod Moving
pub mod Causes
mod Known
