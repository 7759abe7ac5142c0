pub mod NoticeLemmas
pub mod TreeLemmas
pub mod CommentLemmas
pub mod WrittenLemmas
