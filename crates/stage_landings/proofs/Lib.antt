pub mod Places
pub mod LandingLemmas
