-- The findings of the rules in those of the code.
pub mod Findings
pub mod Seen
pub mod Texts
pub mod Members
pub mod shared
