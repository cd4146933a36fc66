-- Lemmas that crates above cite too.
pub mod Landings
pub mod Objectives
