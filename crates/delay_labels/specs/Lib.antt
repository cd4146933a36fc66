-- The definitions of this crate.
pub mod Bounds
pub mod Lists
pub mod Sources
pub mod StageLists
