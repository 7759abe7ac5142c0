pub mod ElementLemmas
pub mod LoopLemmas
pub mod TargetLemmas
pub mod AscendLemmas
pub mod WalkLemmas
pub mod ShippingLemmas
pub mod ContentsLemmas
pub mod CodeLemmas
pub mod SlotLemmas
pub mod OneState
mod OwnFiles
