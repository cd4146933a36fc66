pub mod Broken
pub mod CleanBlocks
pub mod EachPair
pub mod Failing
pub mod FoundLines
pub mod Ordering
pub mod SeenNames
pub mod Shifting
