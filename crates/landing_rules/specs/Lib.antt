-- The rules of landing sequences, in the words of the rules: whole maps from flights to seconds, pair by
-- pair. Flights says what they speak of, and Limits how many there may be; Rules when a schedule keeps them, is best
-- and is tight; Events what an event answers and changes, and what a run is; Text what a plan and a run print; Sound
-- which situations a run can reach; Problem the same for the waiting flights by rank; FirstBest which of the best and
-- tight schedules is the first; Laws what follows from the definitions alone; Testing the rules as tests that compute,
-- Audit every rule that a plan block breaks, and Examples small situations whose best schedules are known.
pub mod Flights
pub mod Rules
pub mod Events
pub mod Text
pub mod Sound
pub mod Problem
pub mod FirstBest
pub mod Laws
pub mod Testing
pub mod Audit
pub mod Examples
pub mod shared
