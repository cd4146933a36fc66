-- Lemmas that crates above cite too: on the pairs of a list, windows of one node, and lists with one more element.
pub mod LastPairs
pub mod OneNode
pub mod Pushed
