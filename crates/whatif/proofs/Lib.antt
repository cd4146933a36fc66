pub mod OneText
pub mod OutcomeLemmas
pub mod ClosureLemmas
pub mod AboveLemmas
pub mod LeastLemmas
pub mod ShiftLemmas
