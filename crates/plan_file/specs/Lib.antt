-- The plan that a text is, and what its landings show.
pub mod Shown
pub mod Blocks
pub mod Lines
pub mod Reading
pub mod Printed
pub mod shared
pub mod Words
