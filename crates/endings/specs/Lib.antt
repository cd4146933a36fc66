-- How a run ends: its status and its line, how faults come to it, what holds of files as they read, why they are not
-- taken, what the loads of files leave, and what a run reads and writes.
pub mod Faults
pub mod Files
pub mod Lines
pub mod Loads
pub mod Outside
pub mod Refusing
pub mod shared
