-- The definitions of this crate.
pub mod Labels
pub mod Columns
pub mod Entries
pub mod Labellings
pub mod LabelPairs
pub mod shared
