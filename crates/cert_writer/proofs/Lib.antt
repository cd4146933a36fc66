-- The lemmas of this crate.
pub mod Entries
pub mod AllStages
pub mod SlotLemmas
pub mod PairLemmas
pub mod GatherLemmas
pub mod StateLemmas
pub mod AnswerLemmas
pub mod WriteLemmas
