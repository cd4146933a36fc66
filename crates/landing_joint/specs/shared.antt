-- Lemmas that crates above cite too, with what they rest on: lists by rank as maps, what is feasible, best and tight
-- there, first open seconds, landings in their order, flights by number and by name, and events.
pub mod FirstOpen
pub mod OpenDays
pub mod Insertion
pub mod LandingsInOrder
pub mod Pairs
pub mod Members
pub mod Events
pub mod RankedLists
pub mod BestLists
pub mod SortedBySeconds
pub mod FirstBestLists
pub mod NodePairs
pub mod LeastChoices
pub mod SuccessorPairs
