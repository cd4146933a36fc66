-- Lemmas of this crate.
pub mod NodeLemmas
pub mod GatherLemmas
pub mod PairLemmas
pub mod UseLemmas
pub mod WayLemmas
pub mod ScanLemmas
pub mod CompletingLemmas
pub mod AheadLemmas
pub mod ChoiceLemmas
