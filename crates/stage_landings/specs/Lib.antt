-- The definitions of this crate.
pub mod Reach
pub mod Followers
pub mod shared
