-- Lemmas that crates above cite too: how many elements come before one in a total order, what is in a list, lists in
-- order, texts without line feeds, the ranks of flights, and that the tests decide the rules.
pub mod Counting
pub mod Members
pub mod OneList
pub mod Lines
pub mod Ranks
pub mod Tests
