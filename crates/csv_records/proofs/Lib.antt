pub mod Turns
pub mod OneRead
pub mod Parts
pub mod Scans
pub mod Marks
pub mod Headers
