-- Lemmas that crates above cite too: lists of lanes one behind another.
pub mod Lanes
