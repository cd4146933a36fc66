pub mod Patterns
pub mod PatternOrder
pub mod States
pub mod Lines
pub mod Reading
pub mod Spelling
pub mod shared
pub mod Words
