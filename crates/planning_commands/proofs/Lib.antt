pub mod Ended
pub mod ReplayLaws
pub mod Summed
pub mod TextLengths
pub mod Answering
pub mod TextLaws
