-- The definitions of this crate.
pub mod Answer
pub mod Slots
pub mod StageEntries
pub mod Gathered
pub mod Written
