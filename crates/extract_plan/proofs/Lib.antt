pub mod Retimed
pub mod Totals
