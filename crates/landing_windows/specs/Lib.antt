-- Windows: what the windows of a flight are. Closed: what a closure may be. Spans: lists of spans, and the least second
-- in one. Same: when two lists are one. Runs: lemmas that crates above cite too. When a second is open, and which spans
-- are the open ones, stands in the rules.
pub mod Windows
pub mod Closed
pub mod Spans
pub mod Same
pub mod Runs
pub use Rattle.landing_rules.specs.Rules.{last_second, is_within, is_shut, is_open}
pub use Rattle.landing_rules.specs.Problem.{AreOpenSpans}
