pub mod Accepting
pub mod TextLaws
pub mod TrueVerdicts
