pub mod ShowingLemmas
pub mod PageLemmas
pub mod RefusalLemmas
pub mod ReadyingLemmas
mod FillingLemmas
