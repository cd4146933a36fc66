pub mod Costs
pub mod OfTwo
pub mod BlockLaw
