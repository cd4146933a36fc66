-- What contracts say of problems and planners. The problem itself, and its feasible, best and tight lists, are
-- the definitions of landing_rules.
pub mod Seen
pub mod Inside
pub mod WellFormed
pub mod Plans
pub mod OpenSpans
pub mod FirstDifference
pub mod shared
