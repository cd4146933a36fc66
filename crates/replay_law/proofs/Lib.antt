pub mod Lines
pub mod BlockLines
pub mod PlanTells
pub mod Showable
pub mod Steps
pub mod Runs
