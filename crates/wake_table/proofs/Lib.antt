-- Lemmas of the wake table.
pub mod NoneFound
