pub mod Spans
pub mod Columns
pub mod Kinds
pub mod Reading
pub mod Words
