-- Lemmas that crates above cite too: landings one more and one back, and labels as pairs.
pub mod NetworkSteps
pub mod LabelPairs
