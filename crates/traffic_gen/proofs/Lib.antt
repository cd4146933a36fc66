pub mod Windows
pub mod Arrivals
