-- Lemmas that crates above cite too: landing orders pair by pair, and as trails.
pub mod LandingOrder
pub mod PlannedOrder
