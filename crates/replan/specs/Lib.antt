-- The definitions of this crate.
pub mod Labels
pub mod Stages
pub mod Held
pub mod Kept
pub mod Readers
pub mod WindowNodes
pub mod LeastValue
pub mod Bound
pub mod shared
