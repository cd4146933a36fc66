-- The lemmas of this crate that crates above cite too.
pub mod shared
