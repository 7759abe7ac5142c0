pub mod SharingLemmas
pub mod FolderLemmas
pub mod Running
pub mod RestLemmas
pub mod WayLemmas
pub mod AmongLemmas
pub mod FirstsLemmas
pub mod LastCounts
