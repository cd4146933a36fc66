pub mod ListLemmas
pub mod StoredLists
pub mod CostLemmas
pub mod PairLemmas
pub mod CompactLemmas
mod FoundPairs
