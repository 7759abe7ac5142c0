pub mod ReportLemmas
pub mod WriterLemmas
pub mod OneAnswer
pub mod ListingLemmas
pub mod FilingLemmas
pub mod ConvertingLemmas
pub mod OutputLemmas
