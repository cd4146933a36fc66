pub mod Text
pub mod Number
pub mod Padded
pub mod Tally
pub mod Counted
pub mod Limits
pub mod Answers
pub mod laws
