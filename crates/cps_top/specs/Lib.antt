-- The program: its commands, what each status says, and what it writes.
pub mod AcceptedRuns
pub mod Commands
pub mod Outcome
pub mod Statuses
