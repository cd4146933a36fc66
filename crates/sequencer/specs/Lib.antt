-- The flights by rank, what the frozen ones leave them, and what is true of every sequencer.
pub use Rattle.situations.specs.Opened
pub mod Frozen
pub mod Predecessors
pub mod Ranked
pub mod Standing
