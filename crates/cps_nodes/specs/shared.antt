-- Lemmas that crates above cite too.
pub mod NumberOrder
