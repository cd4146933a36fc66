-- The definitions of this crate.
pub mod Lists
pub mod Groups
pub mod Permits
pub mod Begins
pub mod Links
pub mod Compacted
pub mod Nodes
pub mod Landable
pub mod Again
pub mod Extended
pub mod Pairs
pub mod KeptStages
pub mod Due
pub mod WindowLaws
pub mod WindowRanks
pub mod PrefixLandings
pub mod shared
