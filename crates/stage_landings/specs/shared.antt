-- Lemmas that crates above cite too: the latest of landed flights.
pub mod LatestLandings
