-- The definitions of this crate.
pub mod Nodes
pub mod Gathered
pub mod Completing
pub mod Uses
pub mod Stages
pub mod Ranges
pub mod Choices
