pub mod BodyLines
pub mod Behind
pub mod Readable
pub mod ReadsBack
