-- What comes of trials.
pub mod Outcomes
pub mod Laws
pub mod OneText
pub mod Text
