-- What these commands print, and which files they refuse.
pub mod Effort
pub mod Plan
pub mod Replay
pub mod ReplayLaws
pub mod TextLaws
pub mod TextLengths
pub mod Trial
