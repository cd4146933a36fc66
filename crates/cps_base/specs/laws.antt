-- The laws: the public lemmas that crates above cite.
pub mod FindMap
pub mod FoldCalls
pub mod Folds
