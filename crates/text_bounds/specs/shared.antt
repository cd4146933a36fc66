-- Lemmas that crates above cite too.
pub mod Lengths
pub mod Blocks
pub mod Certificates
pub mod Numbers
pub mod OpenSeconds
pub mod WholeCertificates
pub mod Events
pub mod Replays
pub mod Reasons
pub mod Trials
