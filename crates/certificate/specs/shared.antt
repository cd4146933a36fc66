-- Lemmas that crates above cite too: what the parts of a certificate keep.
pub mod PartsKept
