-- What a situation is to the rules, what it answers, and how it changes.
pub mod Answers
pub mod Begun
pub mod Finds
pub mod Freezes
pub mod Named
pub mod Opened
pub mod Refused
pub mod Seen
