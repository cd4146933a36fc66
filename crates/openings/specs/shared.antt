-- Lemmas that crates above cite too.
pub mod Finished
pub mod Opened
pub mod OpenedFlights
