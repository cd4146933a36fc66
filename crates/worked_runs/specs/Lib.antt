-- Runs over files in memory in which no load and no put is to fail, and the outputs that a worked example shows.
pub mod Given
pub mod Outputs
