pub mod Rows
pub mod Values
pub mod ValuesLaw
pub mod Left
pub mod Extent
pub mod Plain
pub mod PlainLaw
