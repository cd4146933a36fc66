-- That traffic can land.
pub mod Landing
