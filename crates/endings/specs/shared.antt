-- Lemmas that crates above cite too.
pub mod Files
pub mod Refusing
