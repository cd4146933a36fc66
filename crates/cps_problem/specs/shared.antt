-- Lemmas that crates above cite too: the first difference is one number, what it says of early landings, and in what
-- two problems of a situation may differ.
pub mod OneDifference
pub mod OneProblem
pub mod EarlyLandings
