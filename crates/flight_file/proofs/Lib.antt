pub mod Names
pub mod Parts
pub mod Printable
pub mod PrintedParts
pub mod PrintedFields
pub mod Printed
