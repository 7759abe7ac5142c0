pub mod TextTests
pub mod SeenLemmas
pub mod StepLemmas
pub mod PartsLemmas
pub mod ReadLemmas
pub mod WriteLemmas
pub mod AddLemmas
pub mod Reread
pub mod LinesReread
pub mod DraftEntries
pub mod DraftRead
pub mod DraftGiven
pub mod Digests
mod Columns
