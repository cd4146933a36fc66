-- What was written before, the summary of a trial, and what is printed of a refusal.
pub mod Kept
pub mod Refused
pub mod Trial
