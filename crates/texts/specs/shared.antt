-- Lemmas that crates above cite too: where a text is cut, and that numbers and callsigns that are printed read back.
pub mod Cuts
pub mod Joins
pub mod Printed
