-- What the two files of an opening say, and what a command over them does.
pub mod Follows
pub mod Plan
pub mod shared
