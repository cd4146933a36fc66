-- Lemmas that crates above cite too: states from what is kept of each node, and one state more.
pub mod KeptPairs
pub mod StateEnds
pub mod Values
