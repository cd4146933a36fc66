-- What a run over events writes: the answers and plans of a replay, or the steps of its plannings.
pub mod Written
pub mod Runs
pub mod Efforts
pub mod Ends
pub mod OneText
pub mod shared
