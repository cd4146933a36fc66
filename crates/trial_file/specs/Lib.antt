-- The trials that a text is, or the first fault of its first record that has one.
pub mod Trials
pub mod Reading
pub mod Words
