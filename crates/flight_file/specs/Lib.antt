pub mod Windows
pub mod After
pub mod Fields
pub mod Reading
pub mod Kept
pub mod Printed
pub mod Words
