-- What these commands print, and which files they refuse.
pub mod Certify
pub mod Check
pub mod TextLaws
pub mod Verdicts
