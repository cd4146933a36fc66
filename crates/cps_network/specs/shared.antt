-- Lemmas that crates above cite too: places that are kept, windows of legal prefixes, those that lead to a window, how
-- few a stage has, stages that two problems have in common, what is due, and lists of pairs.
pub mod KeptPlaces
pub mod LegalWindows
pub mod LeadingWindows
pub mod LandableSteps
pub mod FewWindows
pub mod KeptStages
pub mod OneDue
pub mod DueSteps
pub mod KeptCandidates
pub mod KeptCosts
pub mod PairSteps
pub mod PairLists
