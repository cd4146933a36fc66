-- Lemmas that crates above cite too: the steps that are due are one number for a situation.
pub mod OneSteps
