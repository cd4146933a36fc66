-- How many bytes a text may have.
pub mod Blocks
pub mod Certificates
pub mod WholeCertificates
pub mod Replays
pub mod Counts
pub mod Trials
pub mod shared
