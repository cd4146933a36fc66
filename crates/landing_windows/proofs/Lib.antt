-- Lemmas of open seconds.
pub mod GoodWindows
pub mod Padded
pub mod Sweep
pub mod Without
