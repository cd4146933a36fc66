pub mod AtRank
