-- Lemmas on loops along a list, for crates above too.
pub mod Steps
