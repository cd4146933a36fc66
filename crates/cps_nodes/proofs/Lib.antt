-- The lemmas of this crate.
pub mod WindowLemmas
pub mod PrefixLemmas
pub mod TailLemmas
pub mod ExtendLemmas
pub mod LeadsLemmas
pub mod LawLemmas
pub mod DigitLemmas
pub mod DigitTests
pub mod HeldLemmas
