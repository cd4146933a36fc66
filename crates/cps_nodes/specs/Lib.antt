-- The definitions of this crate.
pub mod Windows
pub mod WindowOrder
pub mod Ranks
pub mod Leads
pub mod Laws
pub mod Digits
pub mod Held
pub mod shared
