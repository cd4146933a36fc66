pub mod Accepting
pub mod ByCommand
pub mod Complete
pub mod Exact
pub mod FilesOf
pub mod Statuses
pub mod Sure
