-- FolderState, OpenerState, SinkState and Causes: what the traits promise. Puts: texts in several puts. SourceFaults,
-- Appended and Real: what is known over any source, opener and writer. MemoryFolder, MemorySink and FailingPuts: what
-- those in memory do exactly.
pub mod Causes
pub mod FolderState
pub mod OpenerState
pub mod SinkState
pub mod Puts
pub mod SourceFaults
pub mod Appended
pub mod Real
pub mod MemoryFolder
pub mod FailingPuts
pub mod MemorySink
